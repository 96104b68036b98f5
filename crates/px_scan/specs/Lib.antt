pub mod Crash
pub mod Scan
pub mod Segments
