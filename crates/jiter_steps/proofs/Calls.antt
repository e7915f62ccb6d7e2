-- What the code's loops and answers rest on: laws in the words of contracts.
--
-- A loop's invariant says that what the definition gives from the start is what it gives from here; each way out
-- cites one equation. Strings: runs of plain bytes (PlainRuns), the steps of the decoder (DecodeSteps), what is
-- answered by what is where the plain bytes end, of a text that is kept or not (StringAnswers) and of a raw
-- string (RawStrings), of what the fast path takes (FastAnswers), and of what was decoded (Decoded). Skipping: a
-- skip's open containers complete the rest of the text to a reading of ends (Skipping), the fast path through them
-- (FastSkips), and that it ends where reading the value does, or meets its error, except that of UTF-8
-- (SkipLaw). The table of the letters of escapes (Letters). The machine: what its open containers, as frames, complete the reading of a value to (Resumed).
pub mod DecodeSteps
pub mod Decoded
pub mod Letters
pub mod FastAnswers
pub mod PlainRuns
pub mod FastSkips
pub mod Looks
pub mod RawStrings
pub mod Resumed
pub mod SkipLaw
pub mod Skipping
pub mod StringAnswers
