pub mod Gates
pub mod Values
pub mod Law
pub mod Held
pub mod Added
pub mod Repeated
pub mod Evaluated
pub mod Cycles
