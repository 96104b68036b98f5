pub mod Numbers
pub mod Walks
pub mod Chains
pub mod Unlinks
pub mod OneRow
pub mod Stores
