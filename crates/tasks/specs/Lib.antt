pub mod Failures
pub mod Numbers
pub mod Lines
