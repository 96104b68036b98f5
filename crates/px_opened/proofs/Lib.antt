pub mod Numbers
pub mod Reading
pub mod One
pub mod Harm
pub mod Found
pub mod Kept
pub mod OneDamage
pub mod Counted
