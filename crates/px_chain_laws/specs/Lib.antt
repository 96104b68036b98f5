pub mod Kept
pub mod Reading
pub mod Sweeping
pub mod Writing
pub mod Worked
