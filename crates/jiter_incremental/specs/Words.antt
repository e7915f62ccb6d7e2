-- The words that the contracts of this crate cite, passed on from one place. Declares nothing.
pub use Rattle.jiter_incremental.specs.Arrived.{Arrived, IsLeft, end_of, shown}
pub use Rattle.jiter_incremental.specs.Between.{IsAfter, IsBeforePart, text_of}
pub use Rattle.jiter_incremental.specs.Document.{HasArrived, HasMoved, HasReadIn, HasTakenIn, IsOver, MayRefuseAt, Next, Opened, Settled, StandsAt, any_bytes, bytes_in, is_shown, noted_in, strictly, token_tree}
pub use Rattle.jiter_incremental.specs.Ends.{AnswersSo, IsEndFault, IsInside, kind_at_end, so_far}
pub use Rattle.jiter_incremental.specs.IncrementalParser.{HasReceived, WouldFinish, received}
pub use Rattle.jiter_incremental.specs.LineIndex.{HasPassed, feeds_from, line_index}
pub use Rattle.jiter_incremental.specs.Names.{name_tree, name_word}
pub use Rattle.jiter_incremental.specs.Reader.{AsRead, IsPutSo, AwaitsKey, AwaitsValue, HasEnded, IsAt, IsComplete, IsHere, IsPaused, IsScalar, IsStill, IsSettled, KeepsRoom, ReadsThrough, Ready, Refuses, ReadsAsBefore, Steps, TakesSeparator, Advanced, after_level, document, noted, refused, with_shown}
pub use Rattle.jiter_incremental.specs.Slot.{HasPart, HasRoomAt, IsContainer, IsOfKey, IsPut, IsRoomy, IsTaken, OpenFrame, around, begun, filled}
pub use Rattle.jiter_incremental.specs.Strings.{IsOfString}
pub use Rattle.jiter_scan.specs.Ascii.{comma, quote}
pub use Rattle.jiter_scan.specs.Kind.{fault_kind}
pub use Rattle.jiter_scan.specs.Number.{Number}
pub use Rattle.jiter_scan.specs.NumberDecoder.{number_view}
pub use Rattle.jiter_scan.specs.PartialMode.{allows_trailing_strings, is_active}
pub use Rattle.jiter_scan.specs.PartialNumber.{Fits, IsBegun, begins_decimal, is_whole, kept_bytes, own_view, StepsTo}
pub use Rattle.jiter_scan.specs.Position.{position_of}
pub use Rattle.jiter_steps.specs.Blank.{is_blank, past_blanks}
pub use Rattle.jiter_steps.specs.Literal.{start_of}
pub use Rattle.jiter_steps.specs.Node.{nesting_limit, number_tree}
pub use Rattle.jiter_steps.specs.PartialString.{HasTaken}
pub use Rattle.jiter_steps.specs.PartialText.{with_text}
pub use Rattle.jiter_steps.specs.Step.{begins_part, closer_of, end_kind_of, opening}
pub use Rattle.jiter_steps.specs.StringDecoder.{text_view}
pub use Rattle.jiter_steps.specs.Tree.{Tree, float, null, string}
pub use Rattle.jiter_value.specs.Owned.{owned_text, owned_tree, tree_as}
pub use Rattle.jiter_value.specs.Parses.{Parses}
pub use Rattle.jiter_value.specs.Stacks.{PartTree, built, empty_tree}
pub use Rattle.jiter_value.specs.Value.{view}
pub use Rattle.jiter_value.specs.declared.parse.settings.Settings.{Settings}
pub use Rattle.jiter_value.specs.declared.value.JsonValue.{out-JsonValue}
