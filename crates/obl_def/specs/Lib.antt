pub mod Forms
pub mod Holds
pub mod Obligations
pub mod Valuation
