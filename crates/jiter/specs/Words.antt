-- The words that the contracts of this crate cite, passed on from one place. Declares nothing.
pub use Rattle.jiter.specs.Cause.{cause_text, error_description, error_text, is_memory_cause, json_error, type_text, wrong_type}
pub use Rattle.jiter.specs.Client.{IsTruthOrNothing, OwnedMayGrowAt, built, built_inside, own_text}
pub use Rattle.jiter.specs.Errors.{cause_of, type_of}
pub use Rattle.jiter.specs.Jiter.{BeginsAs, EndsWithColon, IsErrorAt, IsEscapedAt, IsMemory, IsRefusalOf, KeyIsAt, MovesOn, RefusesBytes, Replies, StandsAt, StandsBefore, TellsHere, WhereMemory, at_start, byte_of, indexed_key_bytes, key_bytes, refusal_view, reply_seen, text_bytes}
pub use Rattle.jiter.specs.Lending.{LeavesReader}
pub use Rattle.jiter.specs.Prefixes.{IsCleanCut, OneThenOther, ParsesPrefix, PrefixesGrow}
pub use Rattle.jiter.specs.Reader.{array_read, bool_read, bytes_read, colon_reply, finish, gave, int_read, item_reply, item_step, key_step, known, member_reply, next, null_read, number_bytes_read, number_read, object_read, peek, position_after, refused, refused_as, scalar_reply, skip_read, str_read, type_refusal, value_place, value_read, with_position}
pub use Rattle.jiter.specs.Reads.{Lends, Reads, Stops, anywhere, escape_memory, first_key_memory, key_memory, never, next_key_memory, owned_value_memory, string_memory, value_memory}
pub use Rattle.jiter.specs.Skipping.{SkipsAsRead}
pub use Rattle.jiter_scan.specs.Kind.{fault_kind, kind_of, out_of_memory}
pub use Rattle.jiter_scan.specs.NumberDecoder.{int_view, number_view}
pub use Rattle.jiter_scan.specs.NumberReading.{number_at}
pub use Rattle.jiter_scan.specs.PartialMode.{is_active}
pub use Rattle.jiter_scan.specs.Position.{position_of}
pub use Rattle.jiter_scan.specs.Scanned.{taken}
pub use Rattle.jiter_steps.specs.Answer.{seen_as}
pub use Rattle.jiter_steps.specs.Cut.{IsBegunContainer}
pub use Rattle.jiter_steps.specs.Extends.{Extends}
pub use Rattle.jiter_steps.specs.Found.{step_of}
pub use Rattle.jiter_steps.specs.Literal.{literal_at, start_of}
pub use Rattle.jiter_steps.specs.Node.{number_tree}
pub use Rattle.jiter_steps.specs.RawString.{raw_view}
pub use Rattle.jiter_steps.specs.Step.{array_first, colon, more, object_first, object_step, step}
pub use Rattle.jiter_steps.specs.StringDecoder.{text_view}
pub use Rattle.jiter_steps.specs.StringReading.{Form, kept, raw, raw_kept, string_at, text_form, whole}
pub use Rattle.jiter_steps.specs.Tree.{Text}
pub use Rattle.jiter_value.specs.Owned.{HoldsBorrowedTextOrPart, owned_text, owned_tree}
pub use Rattle.jiter_value.specs.Parses.{as_read}
pub use Rattle.jiter_value.specs.Value.{LeadsOn, MayGrow, view}
pub use Rattle.std.specs.Borrow.{sem}
