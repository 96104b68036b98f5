pub mod Asking
pub mod Keeping
pub mod Reading
pub mod Seeing
pub mod Writing
