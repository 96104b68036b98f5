pub mod Example
pub mod Extends
pub mod Found
pub mod Front
pub mod Laid
pub mod Life
