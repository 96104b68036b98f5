pub mod Lists
pub mod Places
pub mod Full
pub mod Variations
pub mod Tables
