pub mod Firsts
pub mod Now
