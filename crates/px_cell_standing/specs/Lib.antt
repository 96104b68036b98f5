pub mod Found
pub mod Images
pub mod Naming
pub mod Settled
pub mod Standing
pub mod Touching
