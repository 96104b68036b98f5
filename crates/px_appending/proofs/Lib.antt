pub mod Ends
pub mod Flushing
pub mod Going
pub mod Unlinks
pub mod Versions
