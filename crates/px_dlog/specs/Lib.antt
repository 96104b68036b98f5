pub mod Body
pub mod Errors
pub mod Finding
pub mod Header
pub mod Inventory
pub mod Logs
pub mod Part
