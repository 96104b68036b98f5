pub mod Calls
mod Counting
mod Ending
pub mod Sweeping
mod Writing
