pub mod Cells
pub mod Bounds
pub mod Changes
pub mod Versions
