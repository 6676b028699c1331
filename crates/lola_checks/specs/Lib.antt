pub mod Tree
pub mod Holds
pub mod Suits
pub mod Steps
pub mod Means
