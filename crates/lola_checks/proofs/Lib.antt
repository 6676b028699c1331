pub mod CompareMeans
pub mod ArrayMeans
pub mod PatternMeans
pub mod ClaimsMean
pub mod Loops
pub mod Places
