pub mod Transactions
pub mod Sound
