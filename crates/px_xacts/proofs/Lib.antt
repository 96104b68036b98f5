pub mod Keeping
pub mod Lists
pub mod Low
pub mod Marks
pub mod Room
pub mod Soundness
pub mod Standings
pub mod TakenBack
