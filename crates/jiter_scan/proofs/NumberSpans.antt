-- A number ends where its digits, fraction and exponent do, a minus before them or not.
use Rattle.jiter_scan.proofs.Words.{◌≡◌, inl, inr, ℕ, ◌+◌, ◌<◌, Bool, true, false, List, [], ◌∷◌, length, get_or, sym}
use Rattle.jiter_scan.proofs.Words.{ap, ◌∙◌, subst, arith, slice_range, slice_get, Option, Some, None, ◌==◌}
use Rattle.jiter_scan.proofs.Words.{if◌then◌else◌, codes, ne_eqb, slice_get-get_or, is_digit, invalid_number, IsIntPart}
use Rattle.jiter_scan.proofs.Words.{magnitude_of, IsMinusTo, skip_minus, int_part_from, int_part_at, fraction_at}
use Rattle.jiter_scan.proofs.Words.{exponent_at, span_then, decimal_at, after_minus, span_from, number_span}
use Rattle.jiter_scan.proofs.Words.{taken, failed, Stands, word_at, name_at}
use Rattle.jiter_scan.proofs.Choices.{if_gives, if-true, if-false, span_then-taken}
use Rattle.jiter_scan.proofs.Digits.{digit-bounds}
use Rattle.jiter_scan.proofs.NumberRows.{IntPart}
use Rattle.jiter_scan.proofs.NumberSound.{after_zero-sound, int_part_at-sound}
use Rattle.jiter_scan.proofs.Standing.{slice-one}

module _ (t : List ℕ) where
  -- the byte that is read inside the text is there
  pub byte-got : (i b : ℕ) → i < length t → get_or t i 0 ≡ b → slice_get t i ≡ Some b
  byte-got i b h e = slice_get-get_or t i 0 h ∙ ap (λ x. Some x) e

  -- the integer part, and a fraction and an exponent after it or not
  pub decimal_at-tail : (i k e : ℕ) → int_part_at t i ≡ taken tt k
      → span_then (fraction_at t k) (exponent_at t) ≡ taken tt e → decimal_at t i ≡ taken tt e
  decimal_at-tail i k e int_part tail =
      ap (λ x. span_then x (λ j. span_then (fraction_at t j) (exponent_at t))) int_part ∙ tail

  -- a fraction and what follows it
  pub tail-parts : (i j e : ℕ) → fraction_at t i ≡ taken tt j → exponent_at t j ≡ taken tt e
      → span_then (fraction_at t i) (exponent_at t) ≡ taken tt e
  tail-parts i j e fraction exponent = ap (λ x. span_then x (exponent_at t)) fraction ∙ exponent

  -- a decimal number begins with a digit
  pub decimal-digit : (i e : ℕ) → decimal_at t i ≡ taken tt e → (c : ℕ) × (slice_get t i ≡ Some c) × (is_digit c ≡ true)
  decimal-digit i e h = by int_part.0 w.0 w.1 w.2.0
    where
      int_part : (j : ℕ) × (int_part_at t i ≡ taken tt j) × (span_then (fraction_at t j) (exponent_at t) ≡ taken tt e)
      int_part = span_then-taken _ _ _ _ h

      w : (w : List ℕ) × Stands t i int_part.0 w × IntPart w
      w = int_part_at-sound t i int_part.0 int_part.1

      by : (j : ℕ) (v : List ℕ) → Stands t i j v → IsIntPart v
          → (c : ℕ) × (slice_get t i ≡ Some c) × (is_digit c ≡ true)
      by j [] s is = absurd is
      by j (c ∷ v) s is = (c, s.0, is.0.0)

  -- a decimal number with no minus before it
  pub span-decimal : (names : Bool) (i e : ℕ) → decimal_at t i ≡ taken tt e → number_span names t i ≡ taken tt e
  span-decimal names i e h =
      let d = decimal-digit i e h in
      let c = d.0 in
      let b = digit-bounds c d.2 in
      let other = if c == 73 then (name_at names t (codes "Infinity") i) else decimal_at t i in
      ap (span_from names t i) d.1
      ∙ if-false (c == 45) _ _ (ne_eqb c 45 (λ q. omega (arith, q, b.0)))
      ∙ if-false (c == 78) _ _ (ne_eqb c 78 (λ q. omega (arith, q, b.1)))
      ∙ if-false (c == 73) _ _ (ne_eqb c 73 (λ q. omega (arith, q, b.1))) ∙ h

  -- and with one
  pub span-minus : (names : Bool) (i e : ℕ) → slice_get t i ≡ Some 45 → decimal_at t (i + 1) ≡ taken tt e
      → number_span names t i ≡ taken tt e
  span-minus names i e q h =
      let d = decimal-digit (i + 1) e h in
      let c = d.0 in
      let name = if names then word_at t (codes "Infinity") (i + 1) else failed invalid_number (i + 1) in
      ap (span_from names t i) q ∙ ap (after_minus names t (i + 1)) d.1
      ∙ if-false (c == 73) _ _ (ne_eqb c 73 (λ r. omega (arith, r, (digit-bounds c d.2).1)))
      ∙ h

  -- whether one is before it or not
  pub span-signed : (names : Bool) (i j e : ℕ) → IsMinusTo t i j → decimal_at t j ≡ taken tt e
      → number_span names t i ≡ taken tt e
  span-signed names i j e (inl none) h = span-decimal names i e (subst (λ k. decimal_at t k ≡ taken tt e) none h)
  span-signed names i j e (inr (next, minus)) h =
      span-minus names i e minus (subst (λ k. decimal_at t k ≡ taken tt e) next h)

  after-minus : (j e : ℕ) (o : Option ℕ) → after_minus false t j o ≡ taken tt e → decimal_at t j ≡ taken tt e
  after-minus j e None h = absurd (cc)
  after-minus j e (Some d) h = if_gives (d == 73) _ _ _ h (λ q r. absurd (cc)) (λ q r. r)

  no-minus : (i e c : ℕ) → (if c == 78 then name_at false t (codes "NaN") i
      else (if c == 73 then name_at false t (codes "Infinity") i else decimal_at t i)) ≡ taken tt e
      → decimal_at t i ≡ taken tt e
  no-minus i e c h =
      if_gives (c == 78) _ _ _ h (λ q r. absurd (cc))
      (λ q r. if_gives (c == 73) _ _ _ r (λ q r. absurd (cc)) (λ q r. r))

  -- where names are not allowed, a number's digits begin after its minus
  pub span-digits : (i e : ℕ) → i < length t → number_span false t i ≡ taken tt e
      → decimal_at t (skip_minus t i) ≡ taken tt e
  span-digits i e inside h =
      let c = get_or t i 0 in
      let read : span_from false t i (Some c) ≡ taken tt e =
      sym (ap (span_from false t i) (slice_get-get_or t i 0 inside)) ∙ h in
      let P : ℕ → Type 0 = λ k. decimal_at t k ≡ taken tt e in
      if_gives (c == 45) _ _ _ read
      (λ q r. subst P (sym (if-true (c == 45) (i + 1) i q)) (after-minus (i + 1) e (slice_get t (i + 1)) r))
      (λ q r. subst P (sym (if-false (c == 45) (i + 1) i q)) (no-minus i e c r))

  -- an integer part that begins with a zero is worth nothing
  pub magnitude_of-zero : (i e : ℕ) → slice_get t i ≡ Some 48 → int_part_at t i ≡ taken tt e
      → 0 ≡ magnitude_of (slice_range t i e)
  magnitude_of-zero i e q h =
      let end = after_zero-sound t (i + 1) e (sym (ap (int_part_from t i) q) ∙ h) in
      ap magnitude_of (sym (slice-one t i 48 q)) ∙ ap (λ k. magnitude_of (slice_range t i k)) end
