-- A number that arrives in chunks: what its reading is from the stage that was reached, in any text.
use Rattle.std.specs.Prelude.{◌≡◌, ℕ, ◌+◌, ◌<◌, ◌==◌, ◌||◌, ◌&&◌, Bool, true, false, not, if◌then◌else◌, List}
use Rattle.std.specs.Prelude.{◌++◌}
use Rattle.std.specs.Prelude.{codes, length, nat_le, slice_get, slice_range, string_bytes, Some, ◌≤◌}
use Rattle.std.specs.Str.{IsAscii}
use Rattle.jiter_scan.specs.Ascii as ascii
use Rattle.jiter_scan.specs.Kind.{invalid_number, number_out_of_range, eof_value}
use Rattle.jiter_scan.specs.Scanned.{taken, failed}
use Rattle.jiter_scan.specs.Stands.{Stands}
use Rattle.jiter_scan.specs.Word.{Span, word_at}
use Rattle.jiter_scan.specs.Digits.{is_digit, digit_run_end}
use Rattle.jiter_scan.specs.Number.{Number, integer, big, float, is_float_byte, is_integral}
use Rattle.jiter_scan.specs.NumberReading.{span_then, after_minus, after_zero, digits_from, fraction_at}
use Rattle.jiter_scan.specs.NumberReading.{exponent_at, power_from, number_span}
use Rattle.jiter_scan.specs.declared.number.partial_number.PartialNumber.{PartialNumber}
use Rattle.jiter_scan.specs.declared.number.partial_number.Stage.{Stage}
use Rattle.jiter_scan.specs.declared.number.partial_number.Stage.TheVariants as stage
use Rattle.jiter_scan.specs.declared.number.partial_number.NumberStep.{NumberStep}
use Rattle.jiter_scan.specs.declared.number.partial_number.NumberStep.TheVariants as went
use Rattle.jiter_scan.specs.declared.number.partial_number.OwnNumber.{OwnNumber}
use Rattle.jiter_scan.specs.declared.number.partial_number.OwnNumber.TheVariants as own

-- the digits from j to before e, unless they are more than there is room for
abbrev pub within_room : ℕ → ℕ → ℕ → Span
within_room room j e = if nat_le e (j + room) then taken tt e else failed number_out_of_range (j + (room + 1))

-- a fraction at i, or none, and an exponent, or none
abbrev pub tail_at : List ℕ → ℕ → Span
tail_at t i = span_then (fraction_at t i) (exponent_at t)

-- where a number ends that has come to this stage before j
abbrev pub number_from : Bool → Stage → List ℕ → ℕ → Span
number_from names stage.Minus t j = after_minus names t j (slice_get t j)
number_from names stage.Zero t j = span_then (after_zero j (slice_get t j)) (tail_at t)
number_from names (stage.Digits room) t j = span_then (within_room room j (digit_run_end t j)) (tail_at t)
number_from names stage.Point t j = span_then (digits_from t j (slice_get t j)) (exponent_at t)
number_from names stage.Fraction t j = exponent_at t (digit_run_end t j)
number_from names stage.Letter t j = power_from t j (slice_get t j)
number_from names stage.Sign t j = digits_from t j (slice_get t j)
number_from names stage.Exponent t j = taken tt (digit_run_end t j)

-- `Infinity` after a minus, if names are allowed
abbrev pub infinity_at : Bool → List ℕ → ℕ → Span
infinity_at names t j = if names then word_at t (codes "Infinity") j else failed invalid_number j

-- where it ends by what is said of the byte at j
abbrev pub number_by : Bool → List ℕ → ℕ → NumberStep → Span
number_by names t j (went.Taken s) = number_from names s t (j + 1)
number_by names t j went.Over = taken tt j
number_by names t j went.Named = infinity_at names t j
number_by names t j went.Invalid = failed invalid_number j
number_by names t j went.TooLong = failed number_out_of_range (j + 1)

-- what is said of this byte is right in every text where it is
abbrev pub StepsTo : Stage → ℕ → NumberStep → Type 0
StepsTo s b w =
    (names : Bool) (t : List ℕ) (j : ℕ) → slice_get t j ≡ Some b → number_from names s t j ≡ number_by names t j w

-- these bytes lead from the one stage to the other, in every text where they are
abbrev pub LeadsOver : Stage → List ℕ → Stage → Type 0
LeadsOver s w new =
    (names : Bool) (t : List ℕ) (j : ℕ) → Stands t j (j + length w) w
    → number_from names s t j ≡ number_from names new t (j + length w)

-- what was read so far is a number
abbrev pub is_whole : Stage → Bool
is_whole stage.Zero = true
is_whole (stage.Digits room) = true
is_whole stage.Fraction = true
is_whole stage.Exponent = true
is_whole s = false

-- neither point nor exponent was seen
abbrev pub is_int_stage : Stage → Bool
is_int_stage stage.Minus = true
is_int_stage stage.Zero = true
is_int_stage (stage.Digits room) = true
is_int_stage s = false

-- what the end of the input makes of it
abbrev pub at_end : Bool → ℕ → Span
at_end whole j = if whole then taken tt j else failed eof_value j

-- The bytes of a text from i to before e go on with a number of the one stage, bring it to the other, and show a float
-- where that says so.
pub record GoesTo (s : Stage) (t : List ℕ) (i : ℕ) (new : Stage) (e : ℕ) : Type 0 where
  pub ahead : i ≤ e
  pub within : e ≤ length t
  pub ascii : IsAscii (slice_range t i e)
  pub leads : LeadsOver s (slice_range t i e) new
  pub int : is_int_stage new ≡ (is_int_stage s && is_integral (slice_range t i e))

-- A byte that is taken is one below 80 hex, and shows a float where the stage says so. Only a whole number ends, and
-- only after a minus a name begins, with its `I`.
abbrev pub Fits : Stage → ℕ → NumberStep → Type 0
Fits s b (went.Taken new) = (b < 128) × (is_int_stage new ≡ (is_int_stage s && not (is_float_byte b)))
Fits s b went.Over = is_whole s ≡ true
Fits s b went.Named = (s ≡ stage.Minus) × (b ≡ ascii.capital_i)
Fits s b w = Unit {0}

-- a first byte of a decimal number
abbrev pub begins_decimal : ℕ → Bool
begins_decimal c = is_digit c || (c == ascii.minus)

-- wherever these bytes are, they begin a number that has come to this stage
abbrev pub BeginsTo : List ℕ → Stage → Type 0
BeginsTo w s =
    (names : Bool) (t : List ℕ) (j : ℕ) → Stands t j (j + length w) w
    → number_span names t j ≡ number_from names s t (j + length w)

-- These bytes begin a number that has come to this stage, whatever follows them.
pub record IsBegun (w : List ℕ) (s : Stage) : Type 0 where
  pub goes : (names : Bool) (u : List ℕ) → number_span names (w ++ u) 0 ≡ number_from names s (w ++ u) (length w)
  pub whole : is_integral w ≡ is_int_stage s

-- The bytes of a text from i to before e begin a number that has come to this stage.
pub record BeginsThere (t : List ℕ) (i : ℕ) (s : Stage) (e : ℕ) : Type 0 where
  pub ahead : i < e
  pub within : e ≤ length t
  pub ascii : IsAscii (slice_range t i e)
  pub begun : IsBegun (slice_range t i e) s
  pub goes : BeginsTo (slice_range t i e) s

-- These bytes are kept, and begin a number that has come so far.
pub record HoldsNumber (n : PartialNumber) (w : List ℕ) : Type 0 where
  pub text : string_bytes n.text ≡ w
  pub begun : IsBegun w n.stage
  pub goes : BeginsTo w n.stage

-- a number with a text of its own
abbrev pub own_view : OwnNumber → Number
own_view (own.Int n) = integer n
own_view (own.BigInt s) = big (string_bytes s)
own_view (own.Float s) = float (string_bytes s)

-- the bytes that were kept beside a number's value, or that it holds
abbrev pub kept_bytes : OwnNumber → List ℕ → List ℕ
kept_bytes (own.Int n) w = w
kept_bytes (own.BigInt s) w = string_bytes s
kept_bytes (own.Float s) w = string_bytes s
