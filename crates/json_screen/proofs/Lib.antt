mod Arriving
pub mod Drawing
pub mod Plain
mod Reporting
mod Split
mod Told
