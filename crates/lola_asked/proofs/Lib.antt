pub mod Digits
pub mod Vectors
pub mod Dealt
pub mod Each
pub mod Suited
pub mod Blocks
pub mod Firsts
pub mod Dealing
