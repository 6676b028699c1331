pub mod Capped
pub mod Faults
pub mod Least
pub mod Naming
pub mod Taking
pub mod Saying
pub mod Again
