pub mod Records
pub mod Grammar
pub mod Reader
