pub mod Orders
pub mod Next
pub mod Owned
