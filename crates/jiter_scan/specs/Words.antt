-- The words that the contracts of this crate cite, passed on from one place. Declares nothing.
pub use Rattle.jiter_scan.specs.Digits.{decimal_of, digit_run_end, is_digit}
pub use Rattle.jiter_scan.specs.FastNumber.{IsFastNumber, IsPlainInteger}
pub use Rattle.jiter_scan.specs.Kind.{fault_kind, is_memory, kind_of, kind_text, eof_value}
pub use Rattle.jiter_scan.specs.Number.{big, integer, is_float_byte, minus_of, number_value}
pub use Rattle.jiter_scan.specs.NumberDecoder.{EndsWithin, IsMinusTo, int_view, integer_view, magnitude_of, number_view}
pub use Rattle.jiter_scan.specs.NumberReading.{after_minus, after_zero, begins_number, decimal_at, digits_from, exponent_at, span_then, fraction_at, int_alone, int_at, int_part_at, integer_after, integer_after_minus, is_float_sign, name_at, number_alone, number_at, number_span, power_from, with_value, within_limit}
pub use Rattle.jiter_scan.specs.NumberSpan.{IsDecimalFrom, IsSpan, IsNameFrom, span_end, skip_minus, non_finite_span}
pub use Rattle.jiter_scan.specs.PartialNumber.{BeginsThere, Fits, GoesTo, HoldsNumber, IsBegun, StepsTo, at_end, begins_decimal, is_int_stage, is_whole, kept_bytes, number_by, number_from, own_view, tail_at}
pub use Rattle.jiter_scan.specs.PartialWord.{word_by, word_from}
pub use Rattle.jiter_scan.specs.Position.{at_index, description_text, position_of, position_text, short_text}
pub use Rattle.jiter_scan.specs.Scan.{IsAsciiTo, is_ascii, is_plain, is_plain_ascii, scan_stop}
pub use Rattle.jiter_scan.specs.Scanned.{AnswersAlone, Scans, taken, whole_text, with_end, failed}
pub use Rattle.jiter_scan.specs.Simd.{IsEightBytes, ascii_from, digits_end, failing, flipped, flips, is_no_mark, less_zero, plain_to}
pub use Rattle.jiter_scan.specs.Word.{word_at}
pub use Rattle.smallvec.specs.SmallVec.{HasRoomFor}
pub use Rattle.std.specs.BTreeSet.{contains, insert_key}
pub use Rattle.std.specs.Int.{trailing_zeros, w64}
pub use Rattle.std.specs.Int.Digits.{AllBelowBase, number_from_digits}
pub use Rattle.std.specs.List.{list_all}
pub use Rattle.std.specs.Simd.Lanes.{chunk, number_l}
