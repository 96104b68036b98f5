pub mod Contents
pub mod Errors
pub mod Log
pub mod MayStand
pub mod Scanned
pub mod Scanning
pub mod Touching
pub mod Window
