pub mod Chains
pub mod Exits
pub mod Fronts
pub mod RoleRows
pub mod Tables
pub mod Unique
