pub mod Ends
pub mod Examples
pub mod AddedKeys
pub mod SoundLaws
pub mod Steps
pub mod Surveyed
pub mod Walked
