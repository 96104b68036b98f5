pub mod Appends
pub mod Slots
pub mod Texts
pub mod Zeros
