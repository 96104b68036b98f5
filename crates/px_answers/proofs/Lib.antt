pub mod Gathering
pub mod KeptByTickets
pub mod Leaving
pub mod Meeting
pub mod Opened
pub mod Refusing
pub mod Replies
pub mod Seen
