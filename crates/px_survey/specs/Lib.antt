pub mod Cells
pub mod Examples
pub mod Flaws
pub mod Surveyed
pub mod Walked
