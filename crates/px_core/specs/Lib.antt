pub mod Core
pub mod Errors
pub mod Serving
pub mod Sweeping
pub mod Working
