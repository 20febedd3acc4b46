pub mod ButterflyLaws
pub mod HalvesLaws
pub mod TransformLaws
pub mod SignSteps
