pub mod Appends
pub mod Lists
pub mod OneAnswer
pub mod OneOutcome
pub mod OneRefusal
pub mod Stages
mod Orders
pub mod Statuses
pub mod ThreeItems
mod ByRow
mod Printed
mod Readings
mod Refusals
mod ScopeMeans
mod SetRows
mod TableBits
mod ShownStates
mod Theorem
mod Behaves
mod ClassNames
mod Decided
mod Fits
mod Leaves
mod NameRows
mod Places
mod Bridge
mod Verdict
mod Trying
mod Faces
