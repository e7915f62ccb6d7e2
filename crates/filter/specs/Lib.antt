pub mod Line
pub mod Members
pub mod Once
pub mod Pointers
