mod ClassForms
mod Forms
pub mod Looking
mod Shown
mod Stable
mod Storing
mod StoringFits
mod Tables
mod Turning
mod Violated
