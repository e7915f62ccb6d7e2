-- The words that the proofs of this crate cite, passed on from one place. Declares nothing.
pub use Rattle.jiter_scan.proofs.Choices.{failed-taken, if-false, if-true, if_both, if_case, if_gives, same_taken}
pub use Rattle.jiter_scan.proofs.Chunks.{prefix_len-pass, run_end-inside, run_end-through}
pub use Rattle.jiter_scan.proofs.Lanes.{failing-lanes}
pub use Rattle.jiter_scan.proofs.NumberLaws.{continues_number, number_at-complete, number_at-sound, number_at-within}
pub use Rattle.jiter_scan.proofs.NumberRows.{Over, Part, Rows, decimal-is, word, zero-magnitude}
pub use Rattle.jiter_scan.proofs.NumberSound.{Spelled, Unfinished, can_end, number-spelled}
pub use Rattle.jiter_scan.proofs.NumberTests.{number_text-decides}
pub use Rattle.jiter_scan.proofs.Runs.{run_end-ahead, run_end-passes, run_end-passing, run_end-past, run_end-stopping, run_end-stops, run_end-within}
pub use Rattle.jiter_scan.proofs.Scanning.{FaultAt, ScalarWithin}
pub use Rattle.jiter_scan.proofs.Standing.{get-none, slice-one, slice-stands, slice_range-split, stands-append, stands-length, stands-slice, stands-split, stands-within}
pub use Rattle.jiter_scan.proofs.WordLaws.{WordWithin, word_at-complete, word_at-sound, word_at-within}
pub use Rattle.jiter_scan.specs.Digits.{digit_run_end, is_digit}
pub use Rattle.jiter_scan.specs.Kind.{Kind, control_character, duplicate_key, end_of_hex_escape, eof_object, eof_string, eof_value, expected_colon, expected_ident, expected_list_comma_or_end, expected_object_comma_or_end, expected_value, fault_kind, invalid_code_point, invalid_escape, is_end_kind, is_forgiven, key_must_be_a_string, lone_surrogate, number_out_of_range, out_of_memory, recursion_limit, trailing_characters, trailing_comma}
pub use Rattle.jiter_scan.specs.Number.{IsDecimal, IsNumberText, Number, digit_limit, number_value}
pub use Rattle.jiter_scan.specs.NumberReading.{begins_number, span_then, number_span, with_value, within_limit}
unfoldable pub use Rattle.jiter_scan.specs.NumberReading.{number_at}
pub use Rattle.jiter_scan.specs.NumberTests.{is_number_text}
pub use Rattle.jiter_scan.specs.PartialMode.{allows_trailing_strings, is_active}
pub use Rattle.jiter_scan.specs.Scan.{IsAsciiTo, IsFaultOf, IsLook, Pass, is_ascii, is_plain, is_plain_ascii, is_stop, scan_stop}
pub use Rattle.jiter_scan.specs.Scanned.{Scanned, Scans, failed, taken, with_end}
pub use Rattle.jiter_scan.specs.Simd.{failing}
pub use Rattle.jiter_scan.specs.Stands.{Stands}
pub use Rattle.jiter_scan.specs.Word.{Span, byte_then}
unfoldable pub use Rattle.jiter_scan.specs.Word.{word_at}
pub use Rattle.jiter_scan.specs.declared.errors.Fault.{Fault}
pub use Rattle.jiter_scan.specs.declared.errors.FaultKind.{FaultKind}
pub use Rattle.jiter_scan.specs.declared.partial_mode.PartialMode.{PartialMode}
pub use Rattle.jiter_scan.specs.declared.bytes.short_scan.Look.{Look}
pub use Rattle.jiter_steps.specs.Answer.{answer, answer_in, nothing_forgiven, only_ends, partial_answer, partial_trees, read_at, seen_as, skip_at, trees, value_form, whole_trees}
pub use Rattle.jiter_steps.specs.Blank.{IsBlank, IsBlankByte, is_blank}
unfoldable pub use Rattle.jiter_steps.specs.Blank.{past_blanks}
pub use Rattle.jiter_steps.specs.Cut.{IsBegunContainer, cut_number, cut_string}
pub use Rattle.jiter_steps.specs.Escape.{is_hex, is_high, is_low, pair_of, short_escape, unit_of}
pub use Rattle.jiter_steps.specs.Extends.{CutsNoNumber, CutsNoNumberOf, CutsNoNumberOfMembers, Extends, ExtendsItems, ExtendsMembers}
pub use Rattle.jiter_steps.specs.FirstFault.{AreClosers, BeginsNoDocument, IsFiller, can_go_on}
pub use Rattle.jiter_steps.specs.Frames.{Frame, after_value, array_in, items_frame, key_from, members_frame, object_in, parts_from, parts_step, resolve_step, resume, value_from, value_in}
pub use Rattle.jiter_steps.specs.Literal.{literal_at, literal_tree, start_of, word_of}
pub use Rattle.jiter_steps.specs.Node.{IsContainer, IsDocument, Key, Node, NodeMembers, Nodes, Spells, SpellsItems, SpellsKey, SpellsMembers, SpellsMoreItems, SpellsMoreMembers, SpellsNumber, StandsAfter, begin, end, has_backslash, member, nesting, nesting_limit, nesting_of, nesting_of_members, nesting_round, nesting_round_members, no_members, no_nodes, node, number_tree, text_at, value_of, values_of}
pub use Rattle.jiter_steps.specs.Parse.{NeverMovesBack}
pub use Rattle.jiter_steps.specs.PartialEscape.{IsSpelled}
pub use Rattle.jiter_steps.specs.PartialString.{GoesOnWith, HasTaken, HasTakenFrom, IsEven, IsTextWithin, grown, held_bytes}
pub use Rattle.jiter_steps.specs.PartialText.{BeginsNoText, HoldsBytes, HoldsText, IsBroken, IsUnfinished, SoFar, nothing, with_text}
pub use Rattle.jiter_steps.specs.Piece.{IsEscape, IsPlain, IsUnit, Piece, SpellsChar, SpellsPieces, SpellsString, characters, pieces_to, text_of}
pub use Rattle.jiter_steps.specs.RawString.{EndsAt}
pub use Rattle.jiter_steps.specs.Read.{Container, Reading, Rules, after_colon, after_key, after_part, array_of, container_at, done, fault, follow, if_begun, if_forgiven, if_last, object_of, scalar_at, to_end, unless_refused, value_at, value_with, with_key}
unfoldable pub use Rattle.jiter_steps.specs.Read.{inside_at, parts_at, prefix_answer, whole_answer}
pub use Rattle.jiter_steps.specs.ReadError.{UnlessRefused}
pub use Rattle.jiter_steps.specs.Skip.{Continues, IsPlainEnd, LeadsAfter, awaits_value, first_inside, frame_of, inside, next_inside, open_frames, value_inside}
pub use Rattle.jiter_steps.specs.Step.{Step, array_first, begins_part, closed, closer_of, colon, comma_kind_of, container_comma, container_first, container_step, end_kind_of, more, object_colon, object_first, opening, step, stuck, value_first}
pub use Rattle.jiter_steps.specs.StringDecoder.{WantsMemory, stop_view, text_view}
pub use Rattle.jiter_steps.specs.StringReading.{Body, Event, Form, HexDigits, Stop, after, after_backslash, after_high, after_high_backslash, bad_digit, before, between, checked, cut, event_by, few, hex_digits_at, hex_digits_or, if_utf8, is_cut, join, kept, number, over, part, raw, raw_form, raw_kept, short, single, string_at, surrogate_pair, text_form, text_in_form, unclosed, unicode_escape, unit_at, unit_then, valid_prefix, valid_prefix_by, whole, wrong}
unfoldable pub use Rattle.jiter_steps.specs.StringReading.{body_at, body_within, content_at, event_at}
pub use Rattle.jiter_steps.specs.Tree.{Items, Members, Text, Tree, items_of, members_of}
pub use Rattle.jiter_steps.specs.Unique.{BeginsNoUniqueDocument, HasNoKey, HasUniqueKeys, IsUniqueDocument, ItemsHaveUniqueKeys, MembersHaveUniqueKeys, after_its_colon, is_among, own_bytes, repeated_key, unique_answer, without_repeats}
pub use Rattle.jiter_steps.specs.declared.escape.TheConstants.{HEX_DIGITS, SIMPLE_ESCAPES}
pub use Rattle.jiter_steps.specs.declared.parse.ContainerKind.{ContainerKind}
pub use Rattle.jiter_steps.specs.declared.parse.Literal.{Literal}
pub use Rattle.jiter_steps.specs.declared.parse.Start.{Start}
pub use Rattle.jiter_steps.specs.declared.partial_string.PartialString.{PartialString}
pub use Rattle.jiter_steps.specs.declared.read_error.ReadError.{ReadError}
pub use Rattle.std.proofs.Common.{Bool, Err, IfOk, IfSome, IsAscii, IsTrue, IsUtf8, List, None, Ok, Option, Result, Some, [], ap, append-nil, append_assoc, ap₂, arith, bit_and, codes, cond, drop, encode_utf8_all, eq-eqb, eqb-true, false, get_or, get_or-take, if◌then◌else◌, inl, inr, is_some, le-leb, le-ltb, length, length-append, length-drop, length-take, lt-ltb, ltb-false, ltb-true, map, min, nat_eq, nat_le, nat_lt, ne_eqb, not, option_map, refl, rules, slice_get, slice_index, slice_index_or, slice_range, slice_set, subst, suc, sym, take, take-append-drop, take-take, take_all, true, true≢false, zero, ℕ, ◌&&◌, ◌*◌, ◌++◌, ◌+◌, ◌-◌, ◌/◌, ◌<◌, ◌==◌, ◌||◌, ◌∙◌, ◌∷◌, ◌≡◌, ◌≢◌, ◌≤◌, ◌⊎◌}
pub use Rattle.std.proofs.Math.Seq.{drop-append_seam, drop-length, take-add, take-append-add, take-append_seam}
pub use Rattle.std.proofs.lemmas.Bool.{agree_below_at, and_parts, cases_eq, cases_lt, eqb-false, false_from_ne_true, false≢true, leb-false, leb-true, lt-leb, or_parts}
pub use Rattle.std.proofs.lemmas.Bool.Decides.{nat_tests}
pub use Rattle.std.proofs.lemmas.Grind.{common_steps, take-set_at}
pub use Rattle.std.proofs.lemmas.List.{drop-append-le, drop_all, get_or-append-add, get_or-drop, get_or-set_other, get_or-set_same, get_or_append_left, get_or_past, length-take-le, map-append, map_push, take-append-le}
pub use Rattle.std.proofs.lemmas.List.Edits.{between_more, between_none}
pub use Rattle.std.proofs.lemmas.List.Folds.{list_any-append}
pub use Rattle.std.proofs.lemmas.List.Sums.{prefix_len_is}
pub use Rattle.std.proofs.lemmas.Option.{cond_some, get_or_from_slice_get, none-some, same_Some, slice_get-get_or, slice_get_past, slice_get_within}
pub use Rattle.std.proofs.lemmas.Result.{err_from_is_err_and}
pub use Rattle.std.proofs.lemmas.Simd.{zip2_of_maps, zip2_splat}
pub use Rattle.std.proofs.lemmas.Slice.Eq.{bytes_eq-Decides}
pub use Rattle.std.proofs.lemmas.Str.{IsCharBoundary-from_take, IsUtf8-append, IsUtf8-drop, IsUtf8-encode, IsUtf8-from_ascii, IsUtf8-from_is_utf8, IsUtf8-nil, IsUtf8-string_bytes, chars-encodes, encode_same, encodes-append, encodes-chars, len_utf8_ascii, len_utf8_bounds, length-encode, scalars-chars, utf8_valid_len-IsUtf8, utf8_valid_len-IsValidUpTo, utf8_valid_len_le}
pub use Rattle.std.proofs.lemmas.Str.Ascii.{IsAscii-cons, IsAscii-from_all, IsAscii-nil}
pub use Rattle.std.specs.Char.{IsScalar, digit_value}
unfoldable pub use Rattle.std.specs.Char.{encode_utf8}
pub use Rattle.std.specs.Int.{is_in_range}
pub use Rattle.std.specs.List.{AllPass, cons_option, list_any, prefix_len}
pub use Rattle.std.specs.Prelude.{IsErrAnd, MatchResult, string_bytes, vec_len, ⊤}
pub use Rattle.std.specs.Str.{IsValidUpTo, all_scalars, bytes_eq}
unfoldable pub use Rattle.std.specs.Str.{chars, is_utf8}
pub use Rattle.std.specs.Str.Lossy.{second_byte_max, second_byte_min, valid_len_up_to}
unfoldable pub use Rattle.std.specs.Str.Lossy.{utf8_error_len, utf8_valid_len}
pub use Rattle.std.specs.declared.alloc.Global.{Global}
pub use Rattle.std.specs.declared.borrow.CowStr.{CowStr}
pub use lib.Count.{count_trailing_zeros}
pub use lib.Lanes.{chunk}
pub use lib.Utf8.{encodes, next, scalars}
unfoldable pub use lib.Utf8.{encode}
