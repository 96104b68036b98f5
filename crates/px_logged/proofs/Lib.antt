pub mod Adding
pub mod Numbered
pub mod Grown
pub mod Recounted
pub mod Slots
