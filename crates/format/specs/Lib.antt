pub mod Document
pub mod Pointers
