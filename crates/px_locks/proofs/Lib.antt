pub mod Holders
pub mod Keys
pub mod Maps
