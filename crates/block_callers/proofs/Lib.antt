pub mod SameMeanings
pub mod WorkedPair
pub mod LastDecide
