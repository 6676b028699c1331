pub mod Fault
pub mod Grammar
pub mod Kept
pub mod Read
