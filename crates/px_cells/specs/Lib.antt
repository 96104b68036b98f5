pub mod Form
pub mod Unused
