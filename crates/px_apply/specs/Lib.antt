pub mod Contents
pub mod Examples
pub mod Moments
pub mod Writes
