pub mod CodeSets
pub mod Slashes
