pub mod Begun
pub mod Seen
pub mod Unwriting
pub mod Writers
