pub mod Asked
pub mod Memory
pub mod Source
