pub mod Rows
pub mod SameReads
pub mod OneCycle
pub mod SampleFormed
