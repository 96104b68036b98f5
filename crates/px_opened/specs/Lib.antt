pub mod Opened
pub mod Damage
pub mod Kept
