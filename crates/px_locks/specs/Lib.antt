pub mod Holders
pub mod Tables
