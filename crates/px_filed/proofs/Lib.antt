pub mod Filed
pub mod Lying
pub mod Marks
