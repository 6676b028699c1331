mod SizedBody
mod SizedClock
mod SizedNames
mod SizedValues
mod WellSized
pub mod Below
pub mod BitWidths
pub mod Bits
pub mod Declared
pub mod Entries
pub mod Evaluates
pub mod FlatMeans
pub mod FlatParts
pub mod Names
pub mod NewNames
pub mod OneCycle
pub mod Roots
pub mod Statements
pub mod Tables
pub mod WellDeclared
pub mod Whole
pub mod Widths
