pub mod Tests
pub mod SameAgain
pub mod Keeping
