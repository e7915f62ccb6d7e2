pub mod GivenValues
pub mod Laying
pub mod OverlaidTexts
pub mod PrintLaw
pub mod PrintLawNumbers
pub mod PrintLawParts
pub mod PrintLawStrings
pub mod PrintMore
pub mod Printable
pub mod Printing
pub mod Writing
mod Rows
