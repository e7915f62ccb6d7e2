-- The value of a number that was read byte by byte.
use Rattle.jiter_scan.proofs.Words.{◌≡◌, inl, inr, ℕ, ◌-◌, ◌^◌, ◌<◌, ◌≤◌, ◌==◌, Bool, true, false, List, [], ◌∷◌, ◌++◌}
use Rattle.jiter_scan.proofs.Words.{append-nil, length, refl, sym, ap, subst, ◌∙◌, arith, nat_le, nat_lt, slice_get}
use Rattle.jiter_scan.proofs.Words.{slice_range, None, take_all, cases_lt, decimal_of, big, float, is_integral}
use Rattle.jiter_scan.proofs.Words.{integral_value, number_value, IsNumberText, skip_minus, decimal_at, int_part_at}
use Rattle.jiter_scan.proofs.Words.{number_span, number_from, tail_at, is_whole, is_int_stage, at_end, IsBegun, taken}
use Rattle.jiter_scan.proofs.Words.{Stands, Stage}
use Rattle.jiter_scan.proofs.Choices.{if-true, if-false, if_case, if_gives, span_then-taken}
use Rattle.jiter_scan.proofs.NumberBytes.{number-not_empty}
use Rattle.jiter_scan.proofs.NumberSpans.{span-digits}
use Rattle.jiter_scan.proofs.NumberSound.{number_span-sound, int_part_at-sound, fraction_at-sound, exponent_at-sound}
use Rattle.jiter_scan.proofs.NumberValues.{number_value-tail}
use Rattle.jiter_scan.proofs.Standing.{stands-length, stands-slice, stands-split}
use Rattle.jiter_scan.proofs.OpenNumbers.{ended}

-- ---- a number that is complete
nothing-after : (w : List ℕ) → slice_get w (length w) ≡ None
nothing-after [] = refl
nothing-after (c ∷ w) = nothing-after w

pub whole-range : (w : List ℕ) → slice_range w 0 (length w) ≡ w
whole-range w = take_all (length w - 0) w (omega arith)

some-bytes : (names : Bool) (w : List ℕ) → IsNumberText names w → 0 < length w
some-bytes names [] h = absurd (number-not_empty names h)
some-bytes names (c ∷ w) h = omega arith

-- an integer's text where 64 bits do not hold it
integral-big : (w v : List ℕ) → big v ≡ integral_value w → big w ≡ integral_value w
integral-big [] v h = refl
integral-big (c ∷ cs) v h =
    if_case (λ x. big v ≡ x → big (c ∷ cs) ≡ x) (c == 45) _ _
    (λ _. if_case (λ x. big v ≡ x → big (c ∷ cs) ≡ x) (nat_le (decimal_of cs) (2 ^ 63)) _ _ (λ _ g. absurd (cc))
    (λ _ g. refl))
    (λ _. if_case (λ x. big v ≡ x → big (c ∷ cs) ≡ x) (nat_lt (decimal_of (c ∷ cs)) (2 ^ 63)) _ _
    (λ _ g. absurd (cc)) (λ _ g. refl))
    h

pub float-value : (w : List ℕ) → is_integral w ≡ false → number_value w ≡ float w
unfolding number_value
float-value w h = if-false (is_integral w) _ _ h

integral-is : (w : List ℕ) → is_integral w ≡ true → number_value w ≡ integral_value w
unfolding number_value
integral-is w h = if-true (is_integral w) _ _ h

integral-no_float : (w v : List ℕ) → integral_value w ≡ float v → ⊥
integral-no_float [] v h = cc
integral-no_float (c ∷ cs) v h =
    if_gives (c == 45) _ _ _ h
    (λ q r. if_gives (nat_le (decimal_of cs) (2 ^ 63)) _ _ _ r (λ q g. absurd (cc)) (λ q g. absurd (cc)))
    (λ q r. if_gives (nat_lt (decimal_of (c ∷ cs)) (2 ^ 63)) _ _ _ r (λ q g. absurd (cc)) (λ q g. absurd (cc)))

-- the digits of a number go on to its end, where no byte shows a float
pub int-digits : (t : List ℕ) (i at e : ℕ) → i ≤ at → e ≤ length t → is_integral (slice_range t i e) ≡ true
    → decimal_at t at ≡ taken tt e → int_part_at t at ≡ taken tt e
int-digits t i at e low within integral read =
    let part : (j : ℕ) × (int_part_at t at ≡ taken tt j) × (tail_at t j ≡ taken tt e) = span_then-taken _ _ _ _ read in
    let j = part.0 in
    let f = span_then-taken _ _ _ _ part.2 in
    let digits = int_part_at-sound t at j part.1 in
    let fraction = fraction_at-sound t j f.0 f.1 in
    let exponent = exponent_at-sound t f.0 e f.2 in
    let start = stands-length t at j digits.0 digits.1 in
    let end : j ≤ e = omega (
      arith,
      stands-length t j f.0 fraction.0 fraction.1,
      stands-length t f.0 e exponent.0 exponent.1,
    ) in
    elim (cases_lt j e) [
      | inl ahead ↦ absurd
          (integral-no_float (slice_range t i e) (slice_range t i e)
          (sym (integral-is (slice_range t i e) integral)
          ∙ number_value-tail t i j e (omega (arith, low, start)) ahead (omega (arith, end, within)) part.2))
      | inr past ↦ let same : j ≡ e = omega (arith, past, end) in part.1 ∙ ap (taken tt) same
    ]

module _ (w : List ℕ) (s : Stage) (begun : IsBegun w s) (whole : is_whole s ≡ true) where
  span-whole : number_span false w 0 ≡ taken tt (length w)
  span-whole =
      subst (λ v. number_span false v 0 ≡ number_from false s v (length w)) (append-nil w) (begun.goes false [])
      ∙ ended w (length w) (nothing-after w) false s ∙ ap (λ b. at_end b (length w)) whole

  pub begun-some : 0 < length w
  begun-some = some-bytes false w (rw (← whole-range w) (number_span-sound w false 0 (length w) span-whole))

  module _ (int : is_int_stage s ≡ true) where
    integral : is_integral w ≡ true
    integral = begun.whole ∙ int

    -- its digits go on to its end
    pub begun-digits : int_part_at w (skip_minus w 0) ≡ taken tt (length w)
    begun-digits =
        int-digits w 0 (skip_minus w 0) (length w) (omega arith) (omega arith) (ap is_integral (whole-range w) ∙ integral)
        (span-digits w 0 (length w) begun-some span-whole)

    -- which is that of the bytes where no integer of 64 bits is
    pub begun-big : (v : List ℕ) → big v ≡ number_value w → big w ≡ number_value w
    begun-big v h = let is = integral-is w integral in integral-big w v (h ∙ is) ∙ sym is

-- ---- after its minus
-- the last bytes are after the others
pub stands-last : (w u : List ℕ) → Stands (w ++ u) (length w) (length (w ++ u)) u
stands-last w u =
    let t = w ++ u in
    let all : Stands t 0 (length t) t =
    subst (Stands t 0 (length t)) (whole-range t) (stands-slice t 0 (length t) (omega arith) (omega arith)) in
    let r = stands-split t 0 (length t) w u all in
    let place : r.0 ≡ length w = omega (arith, stands-length t 0 r.0 w r.1) in
    subst (λ j. Stands t j (length t) u) place r.2
