pub mod Calls
pub mod Counts
pub mod Engine
pub mod Frames
pub mod Requests
pub mod Texts
