pub mod Cells
pub mod Counting
pub mod Errors
pub mod Making
pub mod Opening
pub mod Touching
