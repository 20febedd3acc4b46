pub mod Inputs
pub mod Replies
pub mod Sessions
pub mod Transcripts
pub mod Comparing
pub mod Openings
