pub mod Accepts
pub mod Refused
pub mod Stages
pub mod Answer
