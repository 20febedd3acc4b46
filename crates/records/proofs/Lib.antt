pub mod ReadingBytes
pub mod Fronts
pub mod Streams
pub mod Standing
pub mod Asking
