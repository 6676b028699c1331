pub mod Numbers
pub mod Tree
pub mod Value
pub mod Signals
pub mod Formed
pub mod Cycle
pub mod Sample
