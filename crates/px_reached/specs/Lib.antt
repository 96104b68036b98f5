pub mod Example
pub mod Reachable
pub mod Scanned
pub mod Stands
