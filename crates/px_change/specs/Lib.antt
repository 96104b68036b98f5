pub mod Text
pub mod Grammar
pub mod Reading
pub mod Examples
pub mod Version
