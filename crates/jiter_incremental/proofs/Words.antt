-- The words that the proofs of this crate cite, passed on from one place. Declares nothing.
pub use Rattle.jiter_incremental.specs.Arrived.{Arrived, HasRead, IsBeforeValue, IsBetweenParts, IsLeft, OpenValue, at_end, at_value, between_parts, container_of, end_of, leads_on, owned, part_row, shown, value_then}
pub use Rattle.jiter_incremental.specs.Between.{ClosesBefore, EndsHere, Everywhere, IsBeforePart, IsScalarStart, TakesByte, after_value, completed, passed, text_of}
pub use Rattle.jiter_incremental.specs.Document.{BeginsAs, BeginsHere, MayFollow, Document, EndsRight, Follows, HasArrived, HasTakenAll, HasMoved, HasReadIn, HasTakenIn, HoldsOpened, HoldsMinus, HoldsScalar, HoldsString, HoldsWord, IsAllowed, IsMoved, IsNumberWithin, IsOver, IsReadAs, IsReading, IsRefused, IsScalarWithin, ReadSoFar, MayRefuseAt, NameBegins, Next, Opened, Parted, ReadsAt, Settled, StandsAt, Strictness, TakenFrom, WordBegins, any_bytes, between_tokens, by_mode, fault_by, in_key, in_scalar, is_shown, noted_in, opened_to, own_number, settings_by, shown_as, strict, strictly, token_tree, with_byte, with_first, with_parts}
pub use Rattle.jiter_incremental.specs.Ends.{AnswersSo, IsEndFault, KeepsText, broken_as, is_broken, kind_at_end, so_far}
pub use Rattle.jiter_incremental.specs.IncrementalParser.{HasReceived}
pub use Rattle.jiter_incremental.specs.LineIndex.{feeds_from}
pub use Rattle.jiter_incremental.specs.Names.{name_start, name_tree, name_word}
pub use Rattle.jiter_incremental.specs.Reader.{AsRead, IsPutSo, after_key, after_text, AwaitsKey, AwaitsValue, HasEnded, HasReadTo, HasTakenTo, IsAt, IsComplete, IsHere, IsPaused, IsScalar, IsStill, IsSettled, KeepsRoom, MovesBy, Ready, Refuses, ReadsAsBefore, Separates, Steps, TakesSeparator, Advanced, after_level, ahead, ahead_as, document, next_of, noted, refused, with_shown}
pub use Rattle.jiter_incremental.specs.Slot.{AwaitsPart, HasValue, IsContainer, IsOfKey, IsPut, OpenFrame, around, begun, filled}
pub use Rattle.jiter_incremental.specs.Strings.{IsClosedAs, IsKeyAs, IsOfString, IsTextAs}
pub use Rattle.jiter_incremental.specs.declared.names.WordValue.{WordValue}
pub use Rattle.jiter_incremental.specs.declared.reader.Awaits.{Awaits}
pub use Rattle.jiter_incremental.specs.declared.reader.Reader.{Reader}
pub use Rattle.jiter_incremental.specs.declared.reader.Token.{Token}
pub use Rattle.jiter_scan.proofs.Choices.{failed-taken, if-false, if-true, if_case}
pub use Rattle.jiter_scan.proofs.Standing.{slice-one, slice-stands, slice_range-split, stands-length}
pub use Rattle.jiter_scan.proofs.WordLaws.{word_at-complete, word_at-sound}
pub use Rattle.jiter_scan.specs.Kind.{Kind, eof_object, eof_value, expected_value, fault_kind, invalid_code_point, invalid_number, is_forgiven, trailing_comma}
pub use Rattle.jiter_scan.specs.Number.{Number}
unfoldable pub use Rattle.jiter_scan.specs.Number.{number_value}
pub use Rattle.jiter_scan.specs.NumberReading.{after_minus, span_from, span_then, number_span}
pub use Rattle.jiter_scan.specs.PartialMode.{allows_trailing_strings, is_active}
pub use Rattle.jiter_scan.specs.PartialNumber.{HoldsNumber, IsBegun, StepsTo, begins_decimal, is_whole, number_by, number_from}
pub use Rattle.jiter_scan.specs.PartialWord.{word_by, word_from}
pub use Rattle.jiter_scan.specs.Scan.{Pass, is_plain_ascii}
pub use Rattle.jiter_scan.specs.Scanned.{failed, taken}
pub use Rattle.jiter_scan.specs.Stands.{Stands}
pub use Rattle.jiter_scan.specs.Word.{Span, word_at}
pub use Rattle.jiter_scan.specs.declared.errors.Fault.{Fault}
pub use Rattle.jiter_scan.specs.declared.errors.FaultKind.{FaultKind}
pub use Rattle.jiter_scan.specs.declared.errors.JsonError.{JsonError}
pub use Rattle.jiter_scan.specs.declared.partial_mode.PartialMode.TheVariants.{Off}
pub use Rattle.jiter_scan.specs.declared.number.partial_number.PartialNumber.{PartialNumber}
pub use Rattle.jiter_scan.specs.declared.partial_word.PartialWord.{PartialWord}
pub use Rattle.jiter_steps.proofs.Calls.Resumed.{if_forgiven-no, if_forgiven-yes, key-failed, resume-fault}
pub use Rattle.jiter_steps.proofs.Grammar.Blanks.{past_blanks-blank, past_blanks-end, past_blanks-other}
pub use Rattle.jiter_steps.proofs.Chunks.OpenStrings.{ended}
pub use Rattle.jiter_steps.proofs.Reading.Values.{inside_at-starts}
pub use Rattle.jiter_steps.proofs.Reading.WholeTexts.{whole-is}
pub use Rattle.jiter_steps.specs.Answer.{nothing_forgiven, seen_as, value_form}
pub use Rattle.jiter_steps.specs.Blank.{is_blank}
unfoldable pub use Rattle.jiter_steps.specs.Blank.{past_blanks}
pub use Rattle.jiter_steps.specs.Frames.{array_in, items_frame, key_from, members_frame, object_in, parts_from, parts_step, resume, value_from, value_in}
pub use Rattle.jiter_steps.specs.Literal.{literal_at, literal_tree, start_of, word_of}
pub use Rattle.jiter_steps.specs.Node.{nesting_limit, number_tree}
pub use Rattle.jiter_steps.specs.PartialString.{GoesOnWith, HasTaken, IsTextWithin, text_or}
pub use Rattle.jiter_steps.specs.Read.{Rules, done, fault, if_last, scalar_at, to_end, whole_answer}
unfoldable pub use Rattle.jiter_steps.specs.Read.{prefix_answer}
pub use Rattle.jiter_steps.specs.Step.{Step, begins_part, closed, closer_of, colon, comma_kind_of, container_comma, container_step, end_kind_of, opening, step, stuck, value_first}
pub use Rattle.jiter_steps.specs.StringDecoder.{text_view}
pub use Rattle.jiter_steps.specs.StringReading.{kept, text_form, whole}
unfoldable pub use Rattle.jiter_steps.specs.StringReading.{content_at}
pub use Rattle.jiter_steps.specs.Tree.{Text, Tree, array, items_of, members_of, null, object, string}
pub use Rattle.jiter_steps.specs.declared.parse.ContainerKind.{ContainerKind}
pub use Rattle.jiter_steps.specs.declared.parse.Literal.{Literal}
pub use Rattle.jiter_steps.specs.declared.parse.Start.{Start}
pub use Rattle.jiter_steps.specs.declared.partial_string.PartialString.{PartialString}
pub use Rattle.jiter_value.proofs.MadeTexts.{rules_as-advances}
pub use Rattle.jiter_value.proofs.ParsedDocuments.{parses}
pub use Rattle.jiter_value.proofs.Views.{view_array, view_object}
pub use Rattle.jiter_value.specs.Owned.{owned_text, owned_tree, tree_as}
pub use Rattle.jiter_value.specs.Parses.{Parses}
pub use Rattle.jiter_value.specs.Settings.{answer_as, rules_as}
pub use Rattle.jiter_value.specs.Stacks.{Member, PartTree, built, empty_tree}
pub use Rattle.jiter_value.specs.Value.{view}
pub use Rattle.jiter_value.specs.declared.parse.settings.Settings.{Settings}
pub use Rattle.jiter_value.specs.declared.value.JsonValue.{Array, JsonValue, Object, out-JsonValue, the_lemmas}
pub use Rattle.jiter_value.specs.declared.value.JsonValue.TheOpen.{JsonValue-F}
pub use Rattle.std.proofs.Common.{Bool, Err, Global, IfOk, IsUtf8, List, None, Ok, OnErr, Option, Result, Some, Vec, [], add-one, ap, append-nil, append_assoc, ap₂, arith, codes, drop, eq-eqb, eqb-true, false, flat_map, get_or, if◌then◌else◌, inl, inr, is_some, length, length-append, length-take-le, ne_eqb, not, option_map, refl, rules, slice_get, slice_index, slice_range, string_bytes, subst, suc, sym, take, take-append-drop, take_all, true, vec_len, zero, ℕ, ◌&&◌, ◌*◌, ◌++◌, ◌+◌, ◌-◌, ◌<◌, ◌==◌, ◌^◌, ◌||◌, ◌∙◌, ◌∷◌, ◌≡◌, ◌≢◌, ◌≤◌, ◌⊎◌}
pub use Rattle.std.proofs.Math.Seq.{get_or-append_seam}
pub use Rattle.std.proofs.lemmas.Bool.{false≢true}
pub use Rattle.std.proofs.lemmas.List.{take_more}
pub use Rattle.std.proofs.lemmas.Option.{get_or_from_slice_get, none-some, same_Some, slice_get-get_or, slice_get_past, slice_get_within}
pub use Rattle.std.specs.Vec.{with_item}
pub use Rattle.std.specs.declared.borrow.CowStr.{CowStr}
