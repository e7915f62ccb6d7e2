-- A number in chunks: what its reading is from the byte at an index on, and at the end of the input.
use Rattle.jiter_scan.proofs.Words.{◌≡◌, ℕ, ◌+◌, ◌-◌, ◌<◌, ◌==◌, ◌||◌, Bool, true, false, List, [], ◌∷◌, ◌++◌, length}
use Rattle.jiter_scan.proofs.Words.{refl, sym, ap, ◌∙◌, arith, nat_le, slice_get, Some, None, if◌then◌else◌, nat_tests}
use Rattle.jiter_scan.proofs.Words.{is_digit, digit_run_end, number_out_of_range, span_then, after_minus, after_zero}
use Rattle.jiter_scan.proofs.Words.{digits_from, power_from, int_part_from, int_part_at, decimal_at, span_from}
use Rattle.jiter_scan.proofs.Words.{number_span, fraction_from, exponent_from, exponent_at, within_room, tail_at}
use Rattle.jiter_scan.proofs.Words.{number_from, is_whole, at_end, Stage, taken, failed, begins_decimal}
use Rattle.jiter_scan.specs.declared.number.partial_number.Stage.TheVariants as stage
use Rattle.jiter_scan.proofs.Choices.{if-true, if-false}
use Rattle.jiter_scan.proofs.Runs.{run_end-ahead, run_end-more, run_end-here}

module _ (t : List ℕ) (j : ℕ) where
  run-ended : slice_get t j ≡ None → digit_run_end t j ≡ j
  run-ended h = run_end-here is_digit t j None h tt

  module _ (b : ℕ) (h : slice_get t j ≡ Some b) where
    pub run-on : is_digit b ≡ true → digit_run_end t j ≡ digit_run_end t (j + 1)
    run-on d = run_end-more is_digit t j b h d

    pub run-over : is_digit b ≡ false → digit_run_end t j ≡ j
    run-over d = run_end-here is_digit t j (Some b) h d

    pub digits-on : is_digit b ≡ true → digits_from t j (slice_get t j) ≡ taken tt (digit_run_end t (j + 1))
    digits-on d = ap (digits_from t j) h ∙ if-true (is_digit b) _ _ d ∙ ap (taken tt) (run-on d)

  -- digits that end here
  pub room-over : (room e : ℕ) → e ≡ j → within_room room j e ≡ taken tt j
  room-over room e same = if-true (nat_le e (j + room)) _ _ (grind (arith, nat_tests)) ∙ ap (taken tt) same

  -- one digit too many
  pub room-none : (room e : ℕ) → room ≡ 0 → j < e → within_room room j e ≡ failed number_out_of_range (j + 1)
  room-none room e none more =
      if-false (nat_le e (j + room)) _ _ (grind (arith, nat_tests))
      ∙ ap (λ n. failed number_out_of_range (j + (n + 1))) none

  -- what the end of the input makes of a stage
  module _ (h : slice_get t j ≡ None) where
    tail-ended : tail_at t j ≡ taken tt j
    tail-ended = ap (λ o. span_then (fraction_from t j o) (exponent_at t)) h ∙ ap (exponent_from t j) h

    pub ended : (names : Bool) (s : Stage) → number_from names s t j ≡ at_end (is_whole s) j
    ended names stage.Minus = ap (after_minus names t j) h
    ended names stage.Zero = ap (λ o. span_then (after_zero j o) (tail_at t)) h ∙ tail-ended
    ended names (stage.Digits room) =
        ap (λ x. span_then x (tail_at t)) (room-over room (digit_run_end t j) (run-ended h)) ∙ tail-ended
    ended names stage.Point = ap (λ o. span_then (digits_from t j o) (exponent_at t)) h
    ended names stage.Fraction = ap (exponent_at t) (run-ended h) ∙ ap (exponent_from t j) h
    ended names stage.Letter = ap (power_from t j) h
    ended names stage.Sign = ap (digits_from t j) h
    ended names stage.Exponent = ap (taken tt) (run-ended h)

  -- room for one digit, and for those after it
  pub room-on : (room e : ℕ) → 0 < room → within_room room j e ≡ within_room (room - 1) (j + 1) e
  room-on room e some =
      let place : j + room ≡ j + 1 + (room - 1) = omega arith in
      let after : j + (room + 1) ≡ j + 1 + (room - 1 + 1) = omega arith in
      ap (λ n. if nat_le e n then taken tt e else failed number_out_of_range (j + (room + 1))) place
      ∙ ap (λ n. if nat_le e (j + 1 + (room - 1)) then taken tt e else failed number_out_of_range n) after

  -- an integer part whose first digit is no zero
  pub decimal-begins : (b : ℕ) → slice_get t j ≡ Some b → (b == 48) ≡ false → is_digit b ≡ true
      → decimal_at t j ≡ span_then (within_room 4299 (j + 1) (digit_run_end t (j + 1))) (tail_at t)
  decimal-begins b h zero digit =
      let here : int_part_at t j ≡ within_room 4300 j (digit_run_end t j) =
      ap (int_part_from t j) h ∙ if-false (b == 48) _ _ zero ∙ if-true (is_digit b) _ _ digit in
      let on : within_room 4300 j (digit_run_end t j) ≡ within_room 4299 (j + 1) (digit_run_end t (j + 1)) =
      room-on 4300 (digit_run_end t j) (omega arith) ∙ ap (within_room 4299 (j + 1)) (run-on b h digit) in
      ap (λ x. span_then x (tail_at t)) (here ∙ on)

  -- a number that begins with a digit
  pub span-digit : (names : Bool) (b : ℕ) → slice_get t j ≡ Some b → is_digit b ≡ true
      → number_span names t j ≡ decimal_at t j
  span-digit names b h digit =
      let no_minus : (b == 45) ≡ false = grind (arith, nat_tests) in
      let no_n : (b == 78) ≡ false = grind (arith, nat_tests) in
      let no_i : (b == 73) ≡ false = grind (arith, nat_tests) in
      ap (span_from names t j) h ∙ if-false (b == 45) _ _ no_minus ∙ if-false (b == 78) _ _ no_n
      ∙ if-false (b == 73) _ _ no_i

-- what the next byte makes of the digits before it
pub ruleset next_digits = (
  nat_tests,
  run-on,
  run-over,
  digits-on,
  room-over,
  room-none,
  room-on,
  run_end-ahead,
  decimal-begins,
)

left-of : (x y : Bool) → (x || y) ≡ true → y ≡ false → x ≡ true
left-of true y h g = refl
left-of false y h g = sym g ∙ h

-- a first byte that is no minus
pub begins-digit : (b : ℕ) → begins_decimal b ≡ true → (b == 45) ≡ false → is_digit b ≡ true
begins-digit b h g = left-of (is_digit b) (b == 45) h g
