pub mod Copies
pub mod Rows
pub mod Fitting
pub mod Meaning
