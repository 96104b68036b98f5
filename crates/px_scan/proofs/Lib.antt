pub mod Cuts
pub mod FullSegments
pub mod Loop
pub mod Recovery
pub mod Scans
pub mod Written
