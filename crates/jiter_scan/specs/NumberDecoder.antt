-- The numbers of the code, as values, and what a function of the code says of a number that it read.
use Rattle.std.specs.Prelude.{◌≡◌, ◌⊎◌, ◌+◌, ◌^◌, ◌<◌, ◌≤◌, ℕ, min, List, slice_get, Some}
use Rattle.jiter_scan.specs.Ascii as ascii
use Rattle.jiter_scan.specs.Digits.{decimal_of}
use Rattle.jiter_scan.specs.Number.{Number, integer, big, float}
use Rattle.jiter_scan.specs.NumberReading as reading
use Rattle.jiter_scan.specs.declared.number.number_decoder.NumberInt.{NumberInt}
use Rattle.jiter_scan.specs.declared.number.number_decoder.NumberInt.TheVariants as int
use Rattle.jiter_scan.specs.declared.number.number_decoder.NumberAny.{NumberAny}
use Rattle.jiter_scan.specs.declared.number.number_decoder.NumberAny.TheVariants as any
use Rattle.jiter_scan.specs.declared.number.number_decoder.Integer.{Integer}
use Rattle.jiter_scan.specs.declared.number.number_decoder.Integer.TheVariants as found

-- the integer, or its text where 64 signed bits do not hold it
abbrev pub int_view : NumberInt → Number
int_view (int.Int n) = integer n
int_view (int.BigInt s) = big s.now

-- the integer, or the text of a float
abbrev pub number_view : NumberAny → Number
number_view (any.Int n) = int_view n
number_view (any.Float s) = float s.now

-- the integer, or that a float shows
abbrev pub integer_view : Integer → reading.Integer
integer_view (found.Whole n) = reading.int_seen (int_view n)
integer_view found.FloatSeen = reading.float_seen

-- an integer ends after i, a float shows at i or after it, and neither past the length
abbrev pub EndsWithin : ℕ → ℕ → Integer × ℕ → Type 0
EndsWithin i len (found.Whole n, e) = (i < e) × (e ≤ len)
EndsWithin i len (found.FloatSeen, j) = (i ≤ j) × (j < len)

-- the value of decimal digits, or the least of twenty digits where that is less
abbrev pub magnitude_of : List ℕ → ℕ
magnitude_of w = min (decimal_of w) (10 ^ 19)

-- nothing, or a minus, is from i to before j
abbrev pub IsMinusTo : List ℕ → ℕ → ℕ → Type 0
IsMinusTo t i j = (j ≡ i) ⊎ ((j ≡ i + 1) × (slice_get t i ≡ Some ascii.minus))
