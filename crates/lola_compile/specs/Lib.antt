pub mod Bits
pub mod Runs
pub mod Compiled
pub mod Refusals
