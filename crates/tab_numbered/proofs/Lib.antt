pub mod Signals
pub mod Expressions
pub mod Rows
pub mod Stays
pub mod Classes
