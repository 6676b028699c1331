pub mod Names
pub mod Sources
pub mod Steps
pub mod Ready
pub mod Cycles
pub mod Named
pub mod Standing
