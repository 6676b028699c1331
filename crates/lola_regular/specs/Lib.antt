pub mod Written
pub mod Clocked
