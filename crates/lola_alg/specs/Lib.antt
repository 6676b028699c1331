pub mod Algebra
pub mod Gates
pub mod Loops
pub mod Means
pub mod Plain
pub mod Steps
