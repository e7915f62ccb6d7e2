-- A number that lies whole in a chunk of a text (RFC 8259, 6).
use Rattle.std.specs.Prelude.{◌≡◌, ◌+◌, ◌-◌, ◌<◌, ◌==◌, ◌||◌, ℕ, Bool, false, List, length, slice_get, slice_index, slice_range}
use Rattle.jiter_scan.specs.Ascii as ascii
use Rattle.jiter_scan.specs.Digits.{is_digit}
use Rattle.jiter_scan.specs.Number.{Number, number_value}
use Rattle.jiter_scan.specs.NumberReading.{number_span}
use Rattle.jiter_scan.specs.Scanned.{taken}
use Rattle.jiter_scan.specs.Stands.{Stands}

-- a byte with which a number may go on: a digit, a point or the letter of an exponent
abbrev pub continues_number : ℕ → Bool
continues_number c = is_digit c || (c == ascii.point) || (c == ascii.small_e) || (c == ascii.capital_e)

-- A number of this value is in a chunk from a place on to before e. Wherever its bytes are with the one after
-- them, it is read to there.
pub record EndsWithin (chunk : List ℕ) (at : ℕ) (n : Number) (e : ℕ) : Type 0 where
  pub begins : at < e
  pub within : e < length chunk
  pub value : n ≡ number_value (slice_range chunk at e)
  pub reads : (names : Bool) (t : List ℕ) (b : ℕ) → Stands t b (b + (e - at)) (slice_range chunk at e)
      → slice_get t (b + (e - at)) ≡ slice_get chunk e → number_span names t b ≡ taken tt (b + (e - at))

-- a byte is there with which no number goes on
pub record EndsNumber (chunk : List ℕ) (e : ℕ) : Type 0 where
  pub within : e < length chunk
  pub stops : continues_number (slice_index chunk e) ≡ false
