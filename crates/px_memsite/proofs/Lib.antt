pub mod FileLists
pub mod Kept
pub mod Leaving
pub mod Listing
pub mod Moments
pub mod Order
pub mod Pending
pub mod Shown
