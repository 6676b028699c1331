pub mod Elements
pub mod Counted
pub mod Dealt
pub mod Named
pub mod GivenBack
pub mod InputsFirst
