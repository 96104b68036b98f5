pub mod Numbers
pub mod Kept
pub mod Rows
pub mod Steps
pub mod Unneeded
