-- The words that the contracts of public calls speak, from one place: who lists `jiter` imports them from here.
-- A constructor goes after its type, as `Node.object`, `Tree.array`, `Kind.trailing_comma` or `ValueType.int`.
--
-- What a text spells, and what it stands for.
pub use Rattle.jiter_scan.specs.Number.{Number, IsNumberText, is_integral, number_value}
pub use Rattle.jiter_steps.specs.Blank.{IsBlank, past_blanks}
pub use Rattle.jiter_steps.specs.Node.{Node, Nodes, NodeMembers, Key, IsDocument, IsContainer, IsCutContainer, Spells}
pub use Rattle.jiter_steps.specs.Node.{SpellsItems, SpellsMoreItems, SpellsMembers, SpellsMoreMembers, SpellsKey}
pub use Rattle.jiter_steps.specs.Node.{SpellsNumber, StandsAfter, begin, end, nesting, nesting_limit, text_at}
pub use Rattle.jiter_steps.specs.Node.{number_tree, value_of, values_of, members_of}
pub use Rattle.jiter_steps.specs.Tree.{Tree, Text, Items, Members, items_of}
-- What a cut leaves of it, and what goes on where another stopped.
pub use Rattle.jiter_scan.specs.PartialMode.{allows_trailing_strings, is_active, mode_from}
pub use Rattle.jiter_steps.specs.Cut.{IsBegunContainer, cut}
pub use Rattle.jiter_steps.specs.Extends.{Extends, CutsNoNumber}
-- Documents in which no object has a key twice.
pub use Rattle.jiter_steps.specs.Unique.{BeginsNoUniqueDocument, HasNoKey, HasUniqueKeys, IsUniqueDocument}
pub use Rattle.jiter_steps.specs.Unique.{unique_answer, unique_answer_in}
-- What is read from the left, and why it is refused.
pub use Rattle.jiter_scan.specs.Kind.{Kind, kind_of, kind_text, is_end_kind, is_memory}
pub use Rattle.jiter_scan.specs.NumberReading.{begins_number, int_alone, int_at, number_alone, number_at}
pub use Rattle.jiter_scan.specs.Scanned.{Scanned, taken, failed, AnswersAlone, FaultAt}
pub use Rattle.jiter_steps.specs.Answer.{answer, answer_in, partial_answer, read_at, skip_at}
pub use Rattle.jiter_steps.specs.FirstFault.{BeginsNoDocument, CanBeCompleted, IsDeadEnd, can_go_on}
pub use Rattle.jiter_steps.specs.Literal.{literal_at, start_of}
pub use Rattle.jiter_steps.specs.Read.{Reading, done, fault}
pub use Rattle.jiter_steps.specs.Step.{Step, more, closed, stuck, step, array_first, object_first, object_step, colon}
pub use Rattle.jiter_steps.specs.StringDecoder.{WantsMemory}
pub use Rattle.jiter_steps.specs.StringReading.{Form, whole, kept, raw, raw_kept, string_at, between}
-- What values, numbers and texts of the code stand for.
pub use Rattle.jiter_scan.specs.NumberDecoder.{int_view, number_view}
pub use Rattle.jiter_steps.specs.RawString.{raw_view}
pub use Rattle.jiter_steps.specs.StringDecoder.{text_view}
pub use Rattle.jiter_value.specs.Value.{view, views, member_views}
-- What parsing promises, and looking into a value, comparing, copying and owning it.
pub use Rattle.jiter_value.specs.Access.{is_null_tree, boolean_in, int_in, number_text_in, string_in, items_in, item_at}
pub use Rattle.jiter_value.specs.Access.{last_such, members_in, member_named}
pub use Rattle.jiter_value.specs.Pointer.{pointed_by}
pub use Rattle.jiter_value.specs.Equality.{code, same_content}
pub use Rattle.jiter_value.specs.Machine.{Progress, held, turns_left}
pub use Rattle.jiter_value.specs.Owned.{HoldSame, HoldsBorrowedTextOrPart, HoldsOwnedTextOrPart, HoldsTextOrPart}
pub use Rattle.jiter_value.specs.Owned.{OwnedMayGrow, ReadHolds, owned_tree}
pub use Rattle.jiter_value.specs.Parses.{Parses, as_read, reading_as}
pub use Rattle.jiter_value.specs.Parses.{AnswersBy, BeginsNone, Manner, ParsesBy, keeping_repeats}
pub use Rattle.jiter_value.specs.ParsesUnique.{ParsesUnique, refusing_repeats}
pub use Rattle.jiter_value.specs.Scratch.{Lists}
pub use Rattle.jiter_value.specs.TurnsTo.{GoesOn, TurnsTo}
pub use Rattle.jiter_value.specs.UniqueErrors.{IsDuplicateKey, IsMemoryRefused, unique_kind}
pub use Rattle.jiter_value.specs.Value.{Answers, MayGrow, MayGrowAt}
-- The pull reader: what its calls reply, and where they leave it.
pub use Rattle.jiter.specs.Cause.{Cause, ValueType, is_memory_cause, json_error, wrong_type}
pub use Rattle.jiter.specs.Client.{OwnedMayGrowAt}
pub use Rattle.jiter.specs.Errors.{cause_of, type_of}
pub use Rattle.jiter.specs.Prefixes.{PrefixesGrow, IsCleanCut, OneThenOther, ParsesPrefix}
pub use Rattle.jiter.specs.Jiter.{BeginsAt, EndsWithColon, IndexWithin, IsMemory, IsRefusalOf, MovesOn}
pub use Rattle.jiter.specs.Jiter.{RefusesBytes, Replies, StandsAt, StandsBefore, TellsHere, UnlessMemory}
pub use Rattle.jiter.specs.Jiter.{KeyIsAt, WhereMemory, at_start, byte_of, indexed_key_bytes, key_bytes}
pub use Rattle.jiter.specs.Jiter.{reply_seen, text_bytes}
pub use Rattle.jiter.specs.Lending.{LeavesReader}
pub use Rattle.jiter.specs.Reader.{ReaderState, Reply, gave, refused, StaysAt, position_after, value_place}
pub use Rattle.jiter.specs.Reader.{with_position}
pub use Rattle.jiter.specs.Reader.{array_read, bool_read, bytes_read, finish, if_byte, int_read, item_step, key_step}
pub use Rattle.jiter.specs.Reader.{known, next}
pub use Rattle.jiter.specs.Reader.{null_read, number_bytes_read, number_read, object_read, peek, skip_read, str_read}
pub use Rattle.jiter.specs.Reader.{value_read}
pub use Rattle.jiter.specs.Reads.{Lends, Memory, Reads, RunsOut, Unless, anywhere, escape_memory, first_key_memory}
pub use Rattle.jiter.specs.Reads.{key_memory, never, next_key_memory, only_at, owned_value_memory, string_memory}
pub use Rattle.jiter.specs.Reads.{value_memory}
pub use Rattle.jiter.specs.Skipping.{SkipsAsRead}
-- What its calls reply where a value comes next.
pub use Rattle.jiter.specs.Telling.{Tells, bool_told, int_told, null_told, number_bytes_told, number_told, other_type}
pub use Rattle.jiter.specs.Telling.{str_told, tree_start, tree_type}
-- Positions, texts, and the kernels of the module `simd`.
pub use Rattle.jiter.specs.Cause.{cause_text, error_description, error_text, type_text}
pub use Rattle.jiter_scan.specs.Digits.{decimal_of, digit_run_end}
pub use Rattle.jiter_scan.specs.Position.{at_index, description_text, position_of, position_text, short_text}
pub use Rattle.jiter_scan.specs.Scan.{IsAsciiTo, scan_stop}
pub use Rattle.jiter_scan.specs.Simd.{digits_end}
-- The types of the crates below as clauses see them; those of this crate are in Rattle.jiter.specs.declared.
pub use Rattle.jiter_scan.specs.declared.errors.JsonError.{JsonError}
pub use Rattle.jiter_scan.specs.declared.errors.JsonErrorType.{JsonErrorType}
pub use Rattle.jiter_scan.specs.declared.partial_mode.PartialMode.{PartialMode}
pub use Rattle.jiter_steps.specs.declared.parse.Literal.{Literal}
pub use Rattle.jiter_steps.specs.declared.parse.Start.{Start}
pub use Rattle.jiter_value.specs.declared.parse.unique_error.UniqueError.{UniqueError}
pub use Rattle.jiter_value.specs.declared.parse.unique_error.UniqueErrorType.{UniqueErrorType}
pub use Rattle.jiter_value.specs.declared.value.JsonValue.{JsonValue}
