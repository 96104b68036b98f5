pub mod Counts
pub mod Fits
pub mod Holds
pub mod Numbers
pub mod Putting
pub mod Readings
pub mod Says
pub mod Unused
