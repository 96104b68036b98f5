pub mod Growing
pub mod Logged
pub mod Recounting
