pub mod Cells
pub mod Decided
pub mod Quotes
