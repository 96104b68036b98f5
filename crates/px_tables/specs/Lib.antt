pub mod Held
pub mod Keys
pub mod Linking
pub mod Order
pub mod Unlinking
pub mod Walked
