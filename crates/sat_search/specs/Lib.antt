pub mod Ranges
pub mod Values
pub mod Found
pub mod Kept
