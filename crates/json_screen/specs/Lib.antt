pub mod Arrived
pub mod Parts
pub mod Report
pub mod Rows
pub mod Terminal
