pub mod Hinted
pub mod Stamps
pub mod Sound
pub mod Lines
pub mod Followed
pub mod KeysFound
pub mod Contents
pub mod Started
