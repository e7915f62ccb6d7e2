-- The words that the contracts of public calls speak, from one place: who lists `jiter_incremental` imports them from here.
pub use Rattle.jiter_incremental.specs.IncrementalParser.{HasReceived, Received}
pub use Rattle.jiter_incremental.specs.Document.{MayRefuseAt}
pub use Rattle.jiter_incremental.specs.LineIndex.{HasPassed, Passed, feeds_from, line_index}
