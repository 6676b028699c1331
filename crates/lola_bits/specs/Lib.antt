pub mod Number
pub mod formers
pub mod Lends
pub mod Vector
pub mod Lists
pub mod Names
pub mod BitLists
