pub mod Begins
pub mod EveryMachine
