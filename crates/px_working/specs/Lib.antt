pub mod Follows
pub mod Lasts
pub mod Works
