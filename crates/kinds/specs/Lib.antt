pub mod Kinds
pub mod Lattice
