pub mod Widest
pub mod LatticeZ
pub mod LatticeD
pub mod DLaws
pub mod RoundedCells
pub mod WidestLaws
pub mod Repair
pub mod ZLaws
