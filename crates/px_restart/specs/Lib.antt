pub mod File
pub mod Restart
