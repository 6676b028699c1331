pub mod Text
pub mod Reading
pub mod Cut
pub mod Number
pub mod Parse
pub mod Lists
pub mod Written
pub mod Runs
