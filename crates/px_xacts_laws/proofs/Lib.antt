pub mod Marking
pub mod Mirroring
