pub mod Renamed
pub mod Reads
