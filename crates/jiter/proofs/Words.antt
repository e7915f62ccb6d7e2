-- The words that the proofs of this crate cite, passed on from one place. Declares nothing.
pub use Rattle.jiter.specs.Cause.{Cause, ValueType, array, bool, int, json_error, null, object, string, wrong_type}
pub use Rattle.jiter.specs.Client.{built, owned_trees}
pub use Rattle.jiter.specs.Jiter.{IndexWithin, IsErrorAt, IsRefusalOf, MovesOn, RefusesBytes, Replies, StandsAt, byte_of, key_bytes, refusal_view, reply_seen, text_bytes}
pub use Rattle.jiter.specs.Reader.{ReaderState, Refusal, Reply, array_read, bool_read, bytes_read, colon_reply, finish, gave, if_byte, int_read, integer_reply, item_step, key_reply, key_step, known, member_reply, next, null_read, number_bytes_read, number_read, object_read, part_reply, peek, refused, refused_as, scalar_reply, skip_read, str_read, string_read, value_place, value_read, value_reply, with_position}
pub use Rattle.jiter.specs.Reads.{Reads, anywhere, never, string_memory}
pub use Rattle.jiter.specs.declared.errors.JiterError.{JiterError}
pub use Rattle.jiter_scan.proofs.NumberLaws.{number_at-within}
pub use Rattle.jiter_scan.proofs.Scanning.{ScalarWithin}
pub use Rattle.jiter_scan.specs.Kind.{Kind, eof_string, eof_value, expected_ident, expected_value, fault_kind, invalid_code_point, invalid_escape, invalid_number, recursion_limit, trailing_comma}
pub use Rattle.jiter_scan.specs.Number.{Number, big, float, integer, number_value}
pub use Rattle.jiter_scan.specs.NumberReading.{Integer, span_then, float_seen, int_seen, with_value}
unfoldable pub use Rattle.jiter_scan.specs.NumberReading.{int_at, number_at}
pub use Rattle.jiter_scan.specs.Scanned.{Scanned, failed, taken}
pub use Rattle.jiter_scan.specs.Word.{Span}
pub use Rattle.jiter_steps.proofs.Calls.SkipLaw.{EndsAlike, skip_at-law}
pub use Rattle.jiter_steps.proofs.Grammar.Blanks.{past_blanks-after}
pub use Rattle.jiter_steps.proofs.Grammar.ScalarLaws.{EndsNumber}
pub use Rattle.jiter_steps.proofs.Grammar.SpelledParts.{begins-value, members_list, start_is}
pub use Rattle.jiter_steps.proofs.Grammar.StringLaws.{string_at-within}
pub use Rattle.jiter_steps.proofs.Reading.Bounds.{Ahead, Within}
pub use Rattle.jiter_steps.proofs.Reading.Instances.{literal_at-within, read_at-within, skip_at-within}
pub use Rattle.jiter_steps.specs.Answer.{answer_in, read_at, seen_as, skip_at, whole_trees}
pub use Rattle.jiter_steps.specs.Blank.{IsBlank}
unfoldable pub use Rattle.jiter_steps.specs.Blank.{past_blanks}
pub use Rattle.jiter_steps.specs.Literal.{literal_at, start_of}
pub use Rattle.jiter_steps.specs.Node.{Key, Node, Spells, SpellsKey, begin, end, nesting, nesting_limit, value_of}
pub use Rattle.jiter_steps.specs.RawString.{raw_view}
pub use Rattle.jiter_steps.specs.Read.{Reading, done, fault, inside_at, scalar_at}
pub use Rattle.jiter_steps.specs.Step.{Step, closed, colon, more, step, stuck}
pub use Rattle.jiter_steps.specs.StringDecoder.{WantsMemory, text_view}
pub use Rattle.jiter_steps.specs.StringReading.{Form, between, kept, raw, string_at, text_form, whole}
pub use Rattle.jiter_steps.specs.Tree.{Text, Tree}
pub use Rattle.jiter_steps.specs.declared.parse.Start.{Start}
pub use Rattle.jiter_steps.specs.declared.read_error.ReadError.{ReadError}
pub use Rattle.jiter_value.specs.Owned.{owned_text, owned_tree}
pub use Rattle.jiter_value.specs.Parses.{as_read, reading_as}
pub use Rattle.jiter_value.specs.Stacks.{member_view}
pub use Rattle.jiter_value.specs.Value.{Answers, view}
pub use Rattle.std.proofs.Common.{Bool, Err, IfSome, IsErrAnd, List, None, Ok, Option, Result, Some, [], ap, arith, codes, false, flat_map, if◌then◌else◌, inl, inr, length, length-take, map, option_map, pos, refl, replicate, rules, slice_get, slice_index, slice_range, subst, sym, take, take-take, true, ℕ, ◌++◌, ◌+◌, ◌-◌, ◌<◌, ◌==◌, ◌∙◌, ◌∷◌, ◌≡◌, ◌≤◌}
pub use Rattle.std.proofs.lemmas.Bool.Decides.{nat_tests}
pub use Rattle.std.proofs.lemmas.Grind.{common_steps}
pub use Rattle.std.proofs.lemmas.Option.{get_or_from_slice_get, none-some, slice_get-get_or, slice_get_within}
pub use Rattle.std.proofs.lemmas.Result.{err_from_is_err_and}
