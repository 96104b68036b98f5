pub mod Cause
pub mod Disk
pub mod Names
pub mod State
pub mod Tally
