pub mod Layout
pub mod Print
pub mod Printed
pub mod Written
