-- The words that the contracts of this crate cite, passed on from one place. Declares nothing.
pub use Rattle.jiter_scan.specs.Kind.{eof_string, fault_kind, invalid_code_point}
pub use Rattle.jiter_scan.specs.NumberDecoder.{number_view}
pub use Rattle.jiter_scan.specs.NumberReading.{number_at}
pub use Rattle.jiter_scan.specs.Scan.{IsAsciiTo, IsLook, Pass, is_plain, is_plain_ascii, is_stop, scan_stop}
pub use Rattle.jiter_scan.specs.Scanned.{Scans, failed, taken, with_end}
pub use Rattle.jiter_scan.specs.Simd.{failing}
pub use Rattle.jiter_steps.specs.Answer.{seen_as, only_ends, skip_at}
pub use Rattle.jiter_steps.specs.Blank.{is_blank, past_blanks}
pub use Rattle.jiter_steps.specs.Escape.{is_hex, is_high, is_low, short_escape}
pub use Rattle.jiter_steps.specs.Found.{Finds, span_of, step_of}
pub use Rattle.jiter_steps.specs.Frames.{resume, value_from}
pub use Rattle.jiter_steps.specs.Literal.{literal_at, start_of}
pub use Rattle.jiter_steps.specs.Node.{nesting_limit}
pub use Rattle.jiter_steps.specs.PartialEscape.{IsSpelled, IsWithin, begun, held_after}
pub use Rattle.jiter_steps.specs.PartialString.{GoesOnWith, HasTaken, HasTakenFrom, IsCountAt, IsEven, IsPart, IsTextWithin, Wherever, grown, text_or}
pub use Rattle.jiter_steps.specs.PartialText.{HoldsText, IsUnfinished, IsWhole, nothing, with_text, IsBroken}
pub use Rattle.jiter_steps.specs.RawString.{EndsAt, raw_view}
pub use Rattle.jiter_steps.specs.Read.{done, scalar_at, value_at}
pub use Rattle.jiter_steps.specs.ReadError.{UnlessRefused, WhereRefused}
pub use Rattle.jiter_steps.specs.Skip.{IsPlainEnd, LeadsAfter, first_inside, next_inside, value_inside, Continues, inside, open_frames}
pub use Rattle.jiter_steps.specs.Step.{colon, container_comma, container_first, container_step, object_colon, opening, step, value_first, closer_of, begins_part, end_kind_of, comma_kind_of, document_end}
pub use Rattle.jiter_steps.specs.StringDecoder.{Decodes, IfNumber, PutsEscape, WantsMemory, digits_view, event_view, stop_view, text_view}
pub use Rattle.jiter_steps.specs.StringReading.{Stop, after_backslash, after_high, after_high_backslash, body_at, checked, content_at, cut, hex_digits_at, kept, number, over, part, raw, raw_form, string_at, surrogate_pair, text_form, text_in_form, unicode_escape, unit_then, whole}
pub use Rattle.jiter_steps.specs.declared.parse.Start.{Start}
pub use Rattle.std.specs.Char.{digit_value}
pub use Rattle.std.specs.Str.{IsValidUpTo, IsUtf8}
unfoldable pub use Rattle.jiter_steps.specs.StringReading.{event_at}
