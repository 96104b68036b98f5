pub mod Fresh
pub mod Frames
pub mod Lasting
pub mod Steps
pub mod Unlinks
