mod Fills
pub mod Sessions
pub mod Transcribing
pub mod Least
pub mod Alike
pub mod Openings
