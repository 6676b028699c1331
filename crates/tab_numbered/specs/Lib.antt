pub mod Numbered
pub mod Rows
pub mod Classes
pub mod Given
