pub mod Setting
pub mod Asked
pub mod CaseBits
pub mod Tables
pub mod Words
