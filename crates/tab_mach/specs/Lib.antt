pub mod Begun
pub mod Known
pub mod Outcome
pub mod Sound
pub mod Vectors
