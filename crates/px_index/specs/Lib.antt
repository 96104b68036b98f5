pub mod Errors
pub mod Listed
pub mod Order
pub mod Versions
pub mod Walks
