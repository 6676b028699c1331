pub mod Tables
pub mod Typed
