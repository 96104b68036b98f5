pub mod Places
pub mod Reading
pub mod Whole
pub mod Says
pub mod Holds
pub mod Numbered
