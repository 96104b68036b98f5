pub mod Restarts
pub mod Reading
