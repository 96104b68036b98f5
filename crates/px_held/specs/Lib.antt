pub mod Errors
pub mod Linking
pub mod Numbers
pub mod Reading
pub mod Serving
pub mod Sweeping
pub mod Unlinking
