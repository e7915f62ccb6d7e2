-- What a number begins with, and its parts.
use Rattle.std.specs.Prelude.{◌≡◌, ℕ, ◌+◌, ◌<◌, ◌≤◌, ◌==◌, Bool, true, if◌then◌else◌, List, length, slice_index}
use Rattle.std.specs.Prelude.{slice_range}
use Rattle.std.specs.Str.{IsAscii}
use Rattle.jiter_scan.specs.Ascii as ascii
use Rattle.jiter_scan.specs.Kind.{expected_value, invalid_number}
use Rattle.jiter_scan.specs.Number.{float, number_value, is_float_byte}
use Rattle.jiter_scan.specs.NumberDecoder.{IsMinusTo}
use Rattle.jiter_scan.specs.NumberReading.{int_part_at, decimal_at}
use Rattle.jiter_scan.specs.NumberReading.{number_span, int_at, integer_after, float_seen}
use Rattle.jiter_scan.specs.Scanned.{Scanned, taken, failed}
use Rattle.jiter_scan.specs.Word.{Span, word_at}
use Rattle.jiter_scan.specs.declared.number.number_span.Span.{Span as Found}
use Rattle.jiter_scan.specs.declared.number.number_span.Span.TheVariants as found

-- the index after the minus at i, or i where there is none
abbrev pub skip_minus : List ℕ → ℕ → ℕ
skip_minus t i = if slice_index t i == ascii.minus then i + 1 else i

-- a name at j, where the number begins at i
abbrev pub non_finite_span : Bool → List ℕ → List ℕ → ℕ → ℕ → Span
non_finite_span names t w i j =
    if names then word_at t w j else (if j == i then failed expected_value j else failed invalid_number j)

-- the number at i begins with this name, at j
pub record IsNameFrom (t w : List ℕ) (i j : ℕ) : Type 0 where
  pub span : (names : Bool) → number_span names t i ≡ non_finite_span names t w i j
  pub integer : int_at t i ≡ taken float_seen j
  pub minus : IsMinusTo t i j
  pub within : j < length t
  pub first : is_float_byte (slice_index t j) ≡ true
  pub some : 0 < length w
  pub ascii : IsAscii w

-- the number at i has no name: its digits begin at j
pub record IsDecimalFrom (t : List ℕ) (i j : ℕ) : Type 0 where
  pub span : (names : Bool) → number_span names t i ≡ decimal_at t j
  pub integer : int_at t i ≡ integer_after t i (int_part_at t j)

-- the end of what was found
abbrev pub span_end : Found → Scanned (Unit {0})
span_end (found.Int j e) = taken tt e
span_end (found.Float e) = taken tt e

-- the text from i to before e, as a float
pub record IsFloatText (t : List ℕ) (i e : ℕ) : Type 0 where
  pub value : number_value (slice_range t i e) ≡ float (slice_range t i e)
  pub ascii : IsAscii (slice_range t i e)
  pub some : i < e
  pub within : e ≤ length t

-- an integer at i with its first digit at j, or a float
abbrev pub IsSpan : List ℕ → ℕ → Found → Type 0
IsSpan t i (found.Int j e) = IsMinusTo t i j × (int_part_at t j ≡ taken tt e) × (j < e) × (e ≤ length t)
IsSpan t i (found.Float e) = IsFloatText t i e
