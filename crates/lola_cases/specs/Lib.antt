pub mod Free
pub mod Cases
pub mod Bits
pub mod Counting
pub mod Trial
