pub mod Calls
pub mod Writers
