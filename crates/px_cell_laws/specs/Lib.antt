pub mod Holding
pub mod Writing
pub mod Sweeping
pub mod Locating
pub mod Reading
pub mod Worked
