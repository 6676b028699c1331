pub mod Calls
pub mod Clocks
pub mod Places
pub mod Signals
pub mod Equations
pub mod Cycle
pub mod Chains
