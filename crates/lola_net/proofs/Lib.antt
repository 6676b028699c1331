pub mod Steps
pub mod Solved
