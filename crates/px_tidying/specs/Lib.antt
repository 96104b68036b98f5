pub mod Errors
pub mod Going
pub mod Numbers
pub mod Opening
