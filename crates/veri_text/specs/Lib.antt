pub mod Names
pub mod Layout
