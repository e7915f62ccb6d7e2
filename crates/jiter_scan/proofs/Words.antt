-- The words that the proofs of this crate cite, passed on from one place. Declares nothing.
pub use Rattle.jiter_scan.specs.Digits.{decimal_of, digit_run_end, is_digit}
pub use Rattle.jiter_scan.specs.FastNumber.{IsPlainFloat, IsPlainInteger}
pub use Rattle.jiter_scan.specs.Kind.{Kind, eof_value, expected_ident, expected_value, fault_kind, invalid_number, is_end_kind, kind_of, number_out_of_range, out_of_memory}
pub use Rattle.jiter_scan.specs.Number.{AreDigits, IsDecimal, IsDigits, IsExponent, IsFraction, IsIntPart, IsMinus, IsName, IsNumberText, IsSign, Number, big, digit_limit, float, integer, integral_value, is_float_byte, is_integral, minus_of, negative_value, positive_value}
unfoldable pub use Rattle.jiter_scan.specs.Number.{number_value}
pub use Rattle.jiter_scan.specs.NumberDecoder.{IsMinusTo, int_view, magnitude_of, number_view}
pub use Rattle.jiter_scan.specs.NumberSpan.{IsDecimalFrom, IsSpan, IsFloatText, IsNameFrom, span_end, skip_minus, non_finite_span}
pub use Rattle.jiter_scan.specs.NumberReading.{Integer, after_minus, after_zero, alone, begins_number, decimal_at, digits_from, exponent_at, exponent_from, span_from, span_then, float_seen, fraction_at, fraction_from, if_number, int_alone, int_part_at, int_part_from, int_seen, integer_after, integer_after_minus, integer_alone, integer_from, integer_or_float, is_float_sign, name_at, number_alone, number_span, power_from, with_value, within_limit}
unfoldable pub use Rattle.jiter_scan.specs.NumberReading.{int_at, number_at}
pub use Rattle.jiter_scan.specs.NumberTests.{are_some_digits, is_exponent, is_fraction, is_int_part, is_magnitude, is_minus, is_name, is_parted, is_sign}
unfoldable pub use Rattle.jiter_scan.specs.NumberTests.{is_number_text}
pub use Rattle.jiter_scan.specs.NumberWithin.{EndsNumber, EndsWithin, continues_number}
pub use Rattle.jiter_scan.specs.PartialNumber.{BeginsThere, BeginsTo, GoesTo, HoldsNumber, IsBegun, StepsTo, LeadsOver, at_end, begins_decimal, is_int_stage, is_whole, number_from, tail_at, within_room}
pub use Rattle.jiter_scan.specs.Position.{column_of, line_of}
pub use Rattle.jiter_scan.specs.Scan.{IsAsciiTo, IsFaultOf, Pass, is_ascii, is_plain, is_plain_ascii, is_stop, run_end, scan_stop}
pub use Rattle.jiter_scan.specs.Scanned.{AnswersAlone, FaultAt, Scanned, Scans, failed, taken}
pub use Rattle.jiter_scan.specs.Simd.{IsEightBytes, ascii_from, failing, flipped, flips, is_no_mark, less_zero, plain_to}
pub use Rattle.jiter_scan.specs.Stands.{Stands}
pub use Rattle.jiter_scan.specs.Word.{Span, byte_then}
unfoldable pub use Rattle.jiter_scan.specs.Word.{word_at}
pub use Rattle.jiter_scan.specs.declared.errors.Fault.{Fault}
pub use Rattle.jiter_scan.specs.declared.errors.JsonError.{JsonError}
pub use Rattle.jiter_scan.specs.declared.number.partial_number.PartialNumber.{PartialNumber}
pub use Rattle.jiter_scan.specs.declared.number.partial_number.Stage.{Stage}
pub use Rattle.std.proofs.Common.{Bool, Decides, IfSome, IsAscii, IsTrue, List, None, Option, Some, [], add-one, add-zero, ap, append-nil, append_assoc, ap₂, arith, codes, cond, drop, drop-cons, drop-drop, eq-eqb, eqb, eqb-true, false, get_or, get_or-drop, if◌then◌else◌, inl, inr, le-leb, leb, leb-true, length, length-append, length-drop, length-take, length-take-le, lit<, lt-ltb, ltb, map, map-id, min, mod-lt, nat_le, nat_lt, ne_eqb, not, of_z, pos, pow-suc, refl, replicate, rules, slice_get, slice_range, string_bytes, subst, suc, sym, take, take-add, take-take, take_all, to_z, to_z-of_z, true, vec_len, w64, w8, zero, zero-lt-suc, ℕ, ◌%◌, ◌&&◌, ◌*◌, ◌++◌, ◌+◌, ◌-ℤ◌, ◌-◌, ◌/◌, ◌<◌, ◌==◌, ◌^◌, ◌||◌, ◌∙◌, ◌∷◌, ◌≡◌, ◌≢◌, ◌≤◌, ◌⊎◌}
pub use Rattle.std.proofs.Math.Bool.{and-false, and-true, and_assoc}
pub use Rattle.std.proofs.Math.Nat.{add-mul, mul-le-mul_right, mul_assoc, one-le-pow, pow-le-pow_right}
pub use Rattle.std.proofs.Math.Seq.{take-append-add}
pub use Rattle.std.proofs.lemmas.Bool.{agree_below, agree_below_at, and_parts, cases_eq, cases_lt, eqb-false, false≢true, le-ltb, leb-false, lt-leb, ltb-true, or_right}
pub use Rattle.std.proofs.lemmas.Bool.Decides.{Decides-and, Decides-eqb, Decides-like, Decides-not, Decides-or, nat_tests, same_from_decides}
pub use Rattle.std.proofs.lemmas.Grind.{take-set_at}
pub use Rattle.std.proofs.lemmas.Int.Digits.{number_after_append, number_lt}
pub use Rattle.std.proofs.lemmas.List.{drop-take, drop_more, length-map, length-set, take_rest}
pub use Rattle.std.proofs.lemmas.List.Elements.{All-weaker}
pub use Rattle.std.proofs.lemmas.List.Folds.{list_all-append, list_any-append, prefix_len-append}
pub use Rattle.std.proofs.lemmas.List.Sums.{AllPass-from_list_all, list_all-from_AllPass, prefix_len-drop_all, prefix_len-drop_no, prefix_len-drop_yes, prefix_len-le-length, prefix_len_passes, prefix_len_stops}
pub use Rattle.std.proofs.lemmas.Nat.{shr-shr, shr_le, trailing_le}
pub use Rattle.std.proofs.lemmas.Option.{IfSome_then, get_or_from_slice_get, none-some, same_Some, slice_get-get_or, slice_get_past, slice_get_within}
pub use Rattle.std.proofs.lemmas.Result.{on_ok_weaker}
pub use Rattle.std.proofs.lemmas.Simd.{chunk-drop, length-chunk, length-replicate, mask_l-mod, put_chunk_whole, splat_is_map, take_more_put_chunk, trailing_mask_l, zip2_of_maps, zip2_splat}
pub use Rattle.std.proofs.lemmas.Slice.Eq.{bytes_eq-Decides}
pub use Rattle.std.proofs.lemmas.Str.{IsAscii-append}
pub use Rattle.std.proofs.lemmas.Str.Ascii.{IsAscii-cons, IsAscii-from_all, IsAscii-nil}
pub use Rattle.std.specs.Int.{trailing_zeros}
pub use Rattle.std.specs.Int.Count.{trailing_of_zero}
pub use Rattle.std.specs.Int.Digits.{AllBelowBase, number_from_digits, number_from_digits_after}
pub use Rattle.std.specs.List.{list_all, list_any, prefix_len}
pub use Rattle.std.specs.Prelude.{Err, IfNone, is_some, slice_set, ⊤, ◌↔◌}
pub use lib.Arith.{digits_div, digits_mod, mod-mul}
pub use lib.Bits.{and_block, and_mask, bit_and, bit_or}
unfoldable pub use lib.Count.{count_trailing_zeros}
pub use lib.Lanes.{Each1, chunk, mask_l, number_l, sel_l, top}
pub use native.Mathlib.Nat.{div-div-eq-div-mul, mod-eq_of_lt, mul-div_cancel, mul-mod_left, pow-succ', zero-div, zero-mod}
