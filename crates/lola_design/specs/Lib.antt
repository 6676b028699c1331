pub mod Paths
pub mod Once
pub mod Drives
pub mod Assigned
pub mod Graph
pub mod Regular
