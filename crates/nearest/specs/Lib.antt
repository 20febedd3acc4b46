pub mod Sets
pub mod Names
pub mod Found
pub mod Lines
