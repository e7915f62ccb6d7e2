-- The first error: no document begins with the bytes up to it (Dead), or little more makes one of those before it
-- (Alive).
--
-- Dead: of two texts with the same bytes before a place, a value of the one that ends before it, with a byte after
-- it, is read the same in the other; where the one meets an error of a byte before the place, the other meets an error.
-- Runs, strings and steps are walked by SameRuns, SameStrings and SameSteps, containers by SameReadings; SameNumbers
-- keeps what jiter_scan's walk over the rows of numbers asks (NumberRows). SameSpelling says the like of the grammar.
-- A document that begins with the bytes up to the error would be read, and is not.
--
-- Alive: where a value's reading meets an error that can go on, there is a filler, and a closer for each container
-- that is open there, with which what was read is a node of the completed text (Completions). By induction on the
-- levels: a number (OpenNumbers, from jiter_scan's NumberSound), a container after its parts (StuckSteps, OpenParts),
-- any value (OpenReadings).
pub mod Alive
pub mod Completions
pub mod Dead
pub mod OpenNumbers
pub mod OpenParts
pub mod OpenReadings
pub mod SameNumbers
pub mod SameReadings
pub mod SameRuns
pub mod SameSpelling
pub mod SameSteps
pub mod SameStrings
pub mod StuckSteps
