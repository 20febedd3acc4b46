pub mod Split
pub mod Written
pub mod Unless
