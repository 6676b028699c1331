pub mod Decimals
pub mod Parted
pub mod Parsed
pub mod Readable
pub mod Written
pub mod ComesAgain
pub mod ReadBack
pub mod ReadOnly
