-- Worked rows on the definitions of five crates: jiter_scan, jiter_steps, jiter_value, jiter and jiter_incremental.
mod Incremental
mod Reader
mod Scan
mod Steps
mod Value
