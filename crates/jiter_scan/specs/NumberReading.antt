-- Reading a number from the left, a byte at a time.
use Rattle.std.specs.Prelude.{ℕ, ◌+◌, ◌==◌, ◌||◌, Bool, if◌then◌else◌, List, codes, slice_get, slice_range}
use Rattle.std.specs.Prelude.{Option, Some, None, nat_le, length}
use Rattle.jiter_scan.specs.Ascii as ascii
use Rattle.jiter_scan.specs.Kind.{eof_value, expected_value, invalid_number, number_out_of_range}
use Rattle.jiter_scan.specs.Scanned.{Scanned, taken, failed}
use Rattle.jiter_scan.specs.Word.{Span, word_at}
use Rattle.jiter_scan.specs.Digits.{is_digit, digit_run_end}
use Rattle.jiter_scan.specs.Number.{Number, number_value, digit_limit}

-- and what follows after it
abbrev pub span_then : Span → (ℕ → Span) → Span
span_then (taken u e) next = next e
span_then (failed k j) next = failed k j

-- one digit or more, at the place i of the byte
abbrev pub digits_from : List ℕ → ℕ → Option ℕ → Span
digits_from t i None = failed eof_value i
digits_from t i (Some c) = if is_digit c then taken tt (digit_run_end t i) else failed invalid_number i

-- after a leading zero no digit may be
abbrev pub after_zero : ℕ → Option ℕ → Span
after_zero j None = taken tt j
after_zero j (Some c) = if is_digit c then failed invalid_number j else taken tt j

-- the digits from i to before e, unless they are too many
abbrev pub within_limit : ℕ → ℕ → Span
within_limit i e = if nat_le e (i + digit_limit) then taken tt e else failed number_out_of_range (i + (digit_limit + 1))

-- the integer part, at the place i of this byte
abbrev pub int_part_from : List ℕ → ℕ → Option ℕ → Span
int_part_from t i None = failed eof_value i
int_part_from t i (Some c) =
    if c == ascii.digit_zero then after_zero (i + 1) (slice_get t (i + 1))
    else (if is_digit c then within_limit i (digit_run_end t i) else failed invalid_number i)

-- the integer part at i
abbrev pub int_part_at : List ℕ → ℕ → Span
int_part_at t i = int_part_from t i (slice_get t i)

-- a fraction, or none
abbrev pub fraction_from : List ℕ → ℕ → Option ℕ → Span
fraction_from t i None = taken tt i
fraction_from t i (Some c) = if c == ascii.point then digits_from t (i + 1) (slice_get t (i + 1)) else taken tt i

-- the sign of an exponent, or none, and its digits
abbrev pub power_from : List ℕ → ℕ → Option ℕ → Span
power_from t i None = failed eof_value i
power_from t i (Some c) =
    if (c == ascii.plus) || (c == ascii.minus) then digits_from t (i + 1) (slice_get t (i + 1)) else digits_from t i
    (Some c)

-- an exponent, or none
abbrev pub exponent_from : List ℕ → ℕ → Option ℕ → Span
exponent_from t i None = taken tt i
exponent_from t i (Some c) =
    if (c == ascii.small_e) || (c == ascii.capital_e) then power_from t (i + 1) (slice_get t (i + 1)) else taken tt i

-- a fraction at i, or none
abbrev pub fraction_at : List ℕ → ℕ → Span
fraction_at t i = fraction_from t i (slice_get t i)

-- an exponent at i, or none
abbrev pub exponent_at : List ℕ → ℕ → Span
exponent_at t i = exponent_from t i (slice_get t i)

-- a decimal number after its minus
abbrev pub decimal_at : List ℕ → ℕ → Span
decimal_at t i = span_then (int_part_at t i) (λ j. span_then (fraction_at t j) (λ k. exponent_at t k))

-- after a minus
abbrev pub after_minus : Bool → List ℕ → ℕ → Option ℕ → Span
after_minus names t i None = failed eof_value i
after_minus names t i (Some c) =
    if c == ascii.capital_i then (if names then word_at t (codes "Infinity") i else failed invalid_number i)
    else decimal_at t i

-- a name, if names are allowed
abbrev pub name_at : Bool → List ℕ → List ℕ → ℕ → Span
name_at names t w i = if names then word_at t w i else failed expected_value i

-- a number, at the place i of this byte
abbrev pub span_from : Bool → List ℕ → ℕ → Option ℕ → Span
span_from names t i None = failed eof_value i
span_from names t i (Some c) =
    if c == ascii.minus then after_minus names t (i + 1) (slice_get t (i + 1))
    else (if c == ascii.capital_n then name_at names t (codes "NaN") i
    else (if c == ascii.capital_i then name_at names t (codes "Infinity") i
    else decimal_at t i))

-- where the number at i ends
abbrev pub number_span : Bool → List ℕ → ℕ → Span
number_span names t i = span_from names t i (slice_get t i)

-- what is from i to there, as a number
abbrev pub with_value : List ℕ → ℕ → Span → Scanned Number
with_value t i (taken u e) = taken (number_value (slice_range t i e)) e
with_value t i (failed k j) = failed k j

-- The number at i: the longest run of its parts.
unfoldable pub number_at : Bool → List ℕ → ℕ → Scanned Number
number_at names t i = with_value t i (number_span names t i)

-- an integer's value, or that a float shows
pub data Integer : Type 0 where
  int_seen : Number → Integer
  float_seen : Integer

-- a point or the letter of an exponent
abbrev pub is_float_sign : ℕ → Bool
is_float_sign c = (c == ascii.point) || (c == ascii.small_e) || (c == ascii.capital_e)

-- the integer from i to before e, unless a float shows at e
abbrev pub integer_or_float : List ℕ → ℕ → ℕ → Option ℕ → Scanned Integer
integer_or_float t i e None = taken (int_seen (number_value (slice_range t i e))) e
integer_or_float t i e (Some c) =
    if is_float_sign c then taken float_seen e else taken (int_seen (number_value (slice_range t i e))) e

-- after the integer part of a number that begins at i
abbrev pub integer_after : List ℕ → ℕ → Span → Scanned Integer
integer_after t i (taken u e) = integer_or_float t i e (slice_get t e)
integer_after t i (failed k j) = failed k j

-- after the minus at i
abbrev pub integer_after_minus : List ℕ → ℕ → Option ℕ → Scanned Integer
integer_after_minus t i None = failed eof_value (i + 1)
integer_after_minus t i (Some c) =
    if c == ascii.capital_i then taken float_seen (i + 1) else integer_after t i (int_part_at t (i + 1))

-- an integer, at the place i of this byte
abbrev pub integer_from : List ℕ → ℕ → Option ℕ → Scanned Integer
integer_from t i None = failed eof_value i
integer_from t i (Some c) =
    if c == ascii.minus then integer_after_minus t i (slice_get t (i + 1))
    else (if (c == ascii.capital_n) || (c == ascii.capital_i) then taken float_seen i
    else integer_after t i (int_part_at t i))

-- The integer at i and its end, or that a float shows and where: sign and integer part, and what is after.
unfoldable pub int_at : List ℕ → ℕ → Scanned Integer
int_at t i = integer_from t i (slice_get t i)

-- a first byte of a number; a name's too
abbrev pub begins_number : ℕ → Bool
begins_number c = is_digit c || (c == ascii.minus) || (c == ascii.capital_n) || (c == ascii.capital_i)

-- the number alone: what follows it is an error
abbrev pub alone : List ℕ → Scanned Number → Scanned Number
alone t (taken n e) = if length t == e then taken n e else failed invalid_number e
alone t (failed k j) = failed k j

-- an integer: a float is an error
abbrev pub integer_alone : Scanned Integer → Scanned Number
integer_alone (taken (int_seen n) e) = taken n e
integer_alone (taken float_seen j) = failed invalid_number j
integer_alone (failed k j) = failed k j

-- the reading, if this byte begins a number
abbrev pub if_number : Option ℕ → Scanned Number → Scanned Number
if_number None x = failed invalid_number 0
if_number (Some c) x = if begins_number c then x else failed invalid_number 0

-- What `NumberAny::from_bytes` answers.
abbrev pub number_alone : Bool → List ℕ → Scanned Number
number_alone names t = if_number (slice_get t 0) (alone t (number_at names t 0))

-- What `NumberInt::from_bytes` answers.
abbrev pub int_alone : List ℕ → Scanned Number
int_alone t = if_number (slice_get t 0) (alone t (integer_alone (int_at t 0)))
