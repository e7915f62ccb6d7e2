-- Worked rows on what is said of the machine and of a scratch, by computation.
mod Buffers
mod Put
mod Resolved
mod UnderWay
