pub mod Counts
pub mod FileLists
