pub mod Lists
pub mod Orders
pub mod Chains
pub mod Searching
pub mod Solving
