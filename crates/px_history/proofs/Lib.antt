pub mod Agreeing
pub mod Basing
pub mod Fronting
pub mod Laying
pub mod Holding
pub mod Small
pub mod Numbering
pub mod Writing
