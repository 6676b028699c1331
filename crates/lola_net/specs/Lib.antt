pub mod Literals
pub mod Counts
pub mod Run
pub mod Equations
pub mod Parts
