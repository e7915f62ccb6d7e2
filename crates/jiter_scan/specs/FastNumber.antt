-- What a plain number is, after its minus: a short one.
use Rattle.std.specs.Prelude.{◌≡◌, ◌≢◌, ℕ, ◌+◌, ◌^◌, ◌<◌, ◌≤◌, List, length, slice_range, slice_index, false}
use Rattle.jiter_scan.specs.Ascii as ascii
use Rattle.jiter_scan.specs.Digits.{digit_run_end}
use Rattle.jiter_scan.specs.Number.{float, number_value}
use Rattle.jiter_scan.specs.NumberDecoder.{magnitude_of}
use Rattle.jiter_scan.specs.NumberReading.{int_part_at, decimal_at, is_float_sign}
use Rattle.jiter_scan.specs.Scanned.{taken}
use Rattle.jiter_scan.specs.declared.number.fast_number.FastNumber.{FastNumber}
use Rattle.jiter_scan.specs.declared.number.fast_number.FastNumber.TheVariants as plain

-- digits alone from i to before e, and their value
pub record IsPlainInteger (t : List ℕ) (i n e : ℕ) : Type 0 where
  pub int_part : int_part_at t i ≡ taken tt e
  pub decimal : decimal_at t i ≡ taken tt e
  pub magnitude : n ≡ magnitude_of (slice_range t i e)
  pub small : n < 2 ^ 63
  pub some : i < e
  pub within : e ≤ length t

-- a number from i to before e that is no integer, a minus before it or not
pub record IsPlainFloat (t : List ℕ) (i e : ℕ) : Type 0 where
  pub decimal : decimal_at t i ≡ taken tt e
  pub value : (j : ℕ) → j ≤ i → number_value (slice_range t j e) ≡ float (slice_range t j e)
  pub some : i < e
  pub within : e ≤ length t

-- an integer of one to fifteen digits, the first no zero, with as many bytes after its first digit as are looked at
pub record IsFewDigits (t : List ℕ) (i : ℕ) : Type 0 where
  pub reach : i + 16 ≤ length t
  pub some : i < digit_run_end t i
  pub few : digit_run_end t i ≤ i + 15
  pub first : slice_index t i ≢ ascii.digit_zero
  pub alone : is_float_sign (slice_index t (digit_run_end t i)) ≡ false

-- what was found at i: such an integer always is
abbrev pub IsFastNumber : List ℕ → ℕ → FastNumber → Type 0
IsFastNumber t i (plain.Int n e) = IsPlainInteger t i n e
IsFastNumber t i (plain.Float e) = IsPlainFloat t i e
IsFastNumber t i plain.Other = IsFewDigits t i → ⊥
