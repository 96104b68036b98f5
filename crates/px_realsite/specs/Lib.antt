pub mod Folder
pub mod OpenFiles
pub mod Path
pub mod Piece
pub mod RealSite
pub mod Streams
pub mod Traffic
