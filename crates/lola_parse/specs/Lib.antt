pub mod Behind
pub mod Design
pub mod Grammar
pub mod Long
pub mod MayEnd
pub mod Parts
pub mod Read
pub mod Symbols
