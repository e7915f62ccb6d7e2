pub mod Objects
pub mod Outcome
