pub mod Step
pub mod Table
