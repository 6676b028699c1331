pub mod Lanes
pub mod Law
pub mod Words
