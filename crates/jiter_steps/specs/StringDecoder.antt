-- What the functions that read strings return.
use Rattle.std.specs.Prelude.{◌≡◌, ℕ, ◌+◌, ◌≤◌, ◌++◌, Bool, true, false, List, slice_get, take, Some, Result, IfOk}
use Rattle.std.specs.Str.{IsUtf8}
use Rattle.std.specs.Char.{encode_utf8}
use Rattle.std.specs.Cow.{cow_str_bytes}
use Rattle.std.specs.declared.alloc.Global.{Global}
use Rattle.std.specs.declared.borrow.CowStr.{CowStr}
use Rattle.std.specs.declared.borrow.CowStr.TheVariants as text
use Rattle.jiter_scan.specs.Ascii as ascii
use Rattle.jiter_scan.specs.Kind.{fault_kind}
use Rattle.jiter_scan.specs.Scan.{scan_stop}
use Rattle.jiter_scan.specs.Scanned.{Scans, with_end}
use Rattle.jiter_steps.specs.ReadError.{UnlessRefused}
use Rattle.jiter_steps.specs.Tree.{Text}
use Rattle.jiter_steps.specs.StringReading.{HexDigits, number, bad, Event, part, over, Stop, closed, unclosed}
use Rattle.jiter_steps.specs.StringReading.{cut, event_at, string_at, text_form, wrong}
use Rattle.jiter_steps.specs.declared.escape.Hex.{Hex}
use Rattle.jiter_steps.specs.declared.escape.Hex.TheVariants as hex
use Rattle.jiter_steps.specs.declared.escape.StringEvent.{StringEvent}
use Rattle.jiter_steps.specs.declared.escape.StringEvent.TheVariants as at_stop
use Rattle.jiter_steps.specs.declared.escape.StringEnd.{StringEnd}
use Rattle.jiter_steps.specs.declared.escape.StringEnd.TheVariants as ending
use Rattle.jiter_steps.specs.declared.read_error.ReadError.{ReadError}

-- the text lies in memory of its own
abbrev pub is_owned : CowStr Global → Bool
is_owned (text.Borrowed s) = false
is_owned (text.Owned s) = true

-- its bytes, and whether they lie in memory of their own
abbrev pub text_view : CowStr Global → Text
text_view c = record { owned = is_owned c; bytes = cow_str_bytes c }

-- four hex digits as the code reads them
abbrev pub digits_view : Hex → HexDigits
digits_view (hex.Bad k) = bad k
digits_view (hex.Number u) = number u

-- where there are four hex digits, of their number
abbrev pub IfNumber : Hex → (ℕ → Type 0) → Type 0
IfNumber (hex.Bad k) P = Unit {0}
IfNumber (hex.Number u) P = P u

-- how a string ends
abbrev pub stop_view : StringEnd → Stop
stop_view (ending.Closed e) = closed e
stop_view ending.Unclosed = unclosed
stop_view ending.Cut = cut
stop_view (ending.Wrong f) = wrong (fault_kind f.kind) f.index

-- what is at a place that is no plain byte's
abbrev pub event_view : StringEvent → Event
event_view (at_stop.Escape c j) = part (encode_utf8 c) true j
event_view (at_stop.End s) = over (stop_view s)

-- Only a string with a backslash wants memory: the plain bytes after its quote end at one.
abbrev pub WantsMemory : List ℕ → ℕ → Type 0
WantsMemory t at = slice_get t (scan_stop t (at + 1)) ≡ Some ascii.backslash

-- The string at i is decoded to the beginning of a buffer of so many bytes: its length there and the index after it, or
-- its first error.
pub record Decodes (t : List ℕ) (i : ℕ) (partial : Bool) (buffer : List ℕ) (size : ℕ) (result : Result (ℕ × ℕ) ReadError)
    : Type 0 where
  pub value : UnlessRefused result (λ r.
      Scans (with_end (λ n. record { owned = true; bytes = take n buffer })) r (string_at (text_form partial) t i))
  pub text : IfOk result (λ r. IsUtf8 (take r.0 buffer))
  pub prefix : IfOk result (λ r. r.0 ≤ size)

-- The escape at i ends at j, and its character is put after these bytes.
pub record PutsEscape (t : List ℕ) (i : ℕ) (buffer next : List ℕ) (j : ℕ) : Type 0 where
  pub bytes : List ℕ
  pub is : part bytes true j ≡ event_at t i
  pub put : next ≡ buffer ++ bytes
