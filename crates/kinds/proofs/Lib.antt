pub mod Widths
pub mod Lawful
