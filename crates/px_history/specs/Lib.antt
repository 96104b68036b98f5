pub mod Store
pub mod Base
pub mod Steps
pub mod Writers
pub mod Told
pub mod Written
pub mod Fitting
pub mod Example
