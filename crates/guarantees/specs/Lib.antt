pub mod Answers
pub mod WordLayers
pub mod PointLayers
pub mod Blocks
