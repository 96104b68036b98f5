pub mod Appending
pub mod Ends
pub mod Unlinks
pub mod Versions
