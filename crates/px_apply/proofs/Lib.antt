pub mod Bytes
pub mod Laid
pub mod Apart
pub mod Touched
pub mod Steps
