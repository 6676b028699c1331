pub mod Steps
pub mod Means
pub mod OneCycle
