pub mod Tables
pub mod Parts
pub mod Shown
pub mod Writes
pub mod Changes
pub mod Moves
pub mod Example
