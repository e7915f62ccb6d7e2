-- What the reading of an integer says beside the reading of any number.
use Rattle.jiter.proofs.Words.{◌≡◌, ◌∙◌, inl, inr, ℕ, ◌+◌, ◌<◌, ◌≤◌, ◌==◌, Bool, true, false, List, length, refl, sym}
use Rattle.jiter.proofs.Words.{ap, subst, arith, slice_get, slice_range, Option, Some, None, codes, if◌then◌else◌, pos}
use Rattle.jiter.proofs.Words.{nat_tests, slice_get_within, Kind, Number, integer, big, float, number_value, Integer}
use Rattle.jiter.proofs.Words.{int_seen, float_seen, int_at, span_then, with_value, number_at, Scanned, taken, failed}
use Rattle.jiter.proofs.Words.{Span}
use Rattle.std.proofs.Common.{◌≢◌, ◌||◌}
use Rattle.std.specs.Prelude.{nat_lt, nat_le, ◌^◌}
use Rattle.jiter_scan.specs.Number.{positive_value, negative_value}
use Rattle.jiter_scan.specs.Number.{is_float_byte, minus_of}
use Rattle.jiter_scan.specs.NumberDecoder.{IsMinusTo, magnitude_of}
use Rattle.jiter_scan.specs.NumberReading.{integer_or_float, integer_after}
use Rattle.jiter_scan.specs.NumberReading.{integer_from}
use Rattle.jiter_scan.specs.NumberReading.{integer_after_minus, is_float_sign, fraction_at}
use Rattle.jiter_scan.specs.NumberReading.{fraction_from, exponent_at, exponent_from, decimal_at, int_part_at}
use Rattle.jiter_scan.specs.NumberReading.{span_from, after_minus}
use Rattle.jiter_scan.specs.Stands.{Stands}
use Rattle.jiter_scan.specs.Word.{word_at}
use Rattle.jiter_scan.proofs.Choices.{if_case, if_both, if-true, if-false, span_then-taken}
use Rattle.jiter_scan.proofs.NumberBytes.{IsMinusTo-le}
use Rattle.jiter_scan.proofs.NumberSound.{int_part_at-sound, digits-sound, power-sound, exponent_at-sound}
use Rattle.jiter_scan.proofs.NumberValues.{number_value-tail, number_value-name, integer_value-positive}
use Rattle.jiter_scan.proofs.NumberValues.{integer_value-negative}
use Rattle.jiter_scan.proofs.Standing.{stands-length, stands-within}

-- neither point, exponent nor name
abbrev pub IsWhole : Number → Type 0
IsWhole (integer z) = Unit {0}
IsWhole (big w) = Unit {0}
IsWhole (float w) = ⊥

-- a point, an exponent or a name
abbrev pub IsFloat : Number → Type 0
IsFloat (float w) = Unit {0}
IsFloat n = ⊥

-- An integer that is read is the number that is read, and is whole; where a float shows, a number that is read is a
-- float; the errors are the same.
abbrev pub AgreeAsInteger : Scanned Integer → Scanned Number → Type 0
AgreeAsInteger (taken (int_seen n) e) y = (y ≡ taken n e) × IsWhole n
AgreeAsInteger (taken float_seen j) (taken n e) = IsFloat n
AgreeAsInteger (taken float_seen j) (failed k x) = Unit {0}
AgreeAsInteger (failed k j) y = y ≡ failed k j

positive-whole : (w : List ℕ) (n : ℕ) → IsWhole (positive_value w n)
positive-whole w n = if_case IsWhole (nat_lt n (2 ^ 63)) (integer (pos n)) (big w) (λ h. tt) (λ h. tt)

negative-whole : (w : List ℕ) (n : ℕ) → IsWhole (negative_value w n)
negative-whole w n = if_case IsWhole (nat_le n (2 ^ 63)) (integer (minus_of n)) (big w) (λ h. tt) (λ h. tt)

-- where two tests are one or the other
three : {A B : Type 0} (R : A → B → Type 0) (m n : Bool) (x y : A) (p q r : B) → (m ≡ true → R x p)
    → (n ≡ true → R x q) → R y r → R (if m || n then x else y) (if m then p else (if n then q else r))
three R true n x y p q r f g h = f refl
three R false true x y p q r f g h = g refl
three R false false x y p q r f g h = h

float-is : (n : Number) (w : List ℕ) → n ≡ float w → IsFloat n
float-is n w h = subst IsFloat (sym h) tt

no_point : (c : ℕ) → is_float_sign c ≡ false → ((c == 46) ≡ false) × (((c == 101) || (c == 69)) ≡ false)
no_point c h = (grind (arith, nat_tests), grind (arith, nat_tests))

module _ (t : List ℕ) (i : ℕ) where
  -- an integer part with a minus or none before it
  whole-number : (j f : ℕ) → IsMinusTo t i j → int_part_at t j ≡ taken tt f → IsWhole (number_value (slice_range t i f))
  whole-number j f (inl none) h =
      subst IsWhole (integer_value-positive t i j f (magnitude_of (slice_range t j f)) (sym none) h refl)
      (positive-whole (slice_range t i f) (magnitude_of (slice_range t j f)))
  whole-number j f (inr minus) h =
      let other : i ≢ j = λ same. omega (arith, minus.0, same) in
      subst IsWhole (integer_value-negative t i j f (magnitude_of (slice_range t j f)) (inr minus) other h refl)
      (negative-whole (slice_range t i f) (magnitude_of (slice_range t j f)))

  -- a fraction or an exponent that is read is some bytes long
  point-long : (f e : ℕ) (c : ℕ) → slice_get t f ≡ Some c → is_float_sign c ≡ true
      → span_then (fraction_at t f) (exponent_at t) ≡ taken tt e → f < e
  point-long f e c here sign h =
      let b = span_then-taken _ _ _ _ h in
      by b.0 b.1 b.2 (c == 46) refl where
        fraction-is : fraction_at t f ≡ fraction_from t f (Some c)
        fraction-is = ap (fraction_from t f) here

        letter : (c == 46) ≡ false → ((c == 101) || (c == 69)) ≡ true
        letter h = grind (arith, nat_tests, sign)

        by : (k : ℕ) → fraction_at t f ≡ taken tt k → exponent_at t k ≡ taken tt e → (b : Bool) → (c == 46) ≡ b → f < e
        by k fraction exponent true is =
            let digits = digits-sound t (f + 1) k (sym (if-true (c == 46) _ _ is) ∙ sym fraction-is ∙ fraction) in
            let rest = exponent_at-sound t k e exponent in
            omega (arith, stands-length t (f + 1) k digits.0 digits.1, stands-length t k e rest.0 rest.1)
        by k fraction exponent false is =
            let nothing : taken tt f ≡ taken tt k =
            sym (if-false (c == 46) _ _ is) ∙ sym fraction-is ∙ fraction in
            let same : f ≡ k = cc in
            let exponent_is : exponent_at t f ≡ taken tt e =
            subst (λ j. exponent_at t j ≡ taken tt e) (sym same) exponent in
            let power = power-sound t (f + 1) e
            (sym (if-true ((c == 101) || (c == 69)) _ _ (letter is)) ∙ sym (ap (exponent_from t f) here)
            ∙ exponent_is) in
            omega (arith, stands-length t (f + 1) e power.0 power.1)

  -- after the integer part
  later : (j f : ℕ) → IsMinusTo t i j → f ≤ length t → i ≤ f → int_part_at t j ≡ taken tt f → (o : Option ℕ)
      → slice_get t f ≡ o
      → AgreeAsInteger (integer_or_float t i f o) (with_value t i (span_then (fraction_at t f) (exponent_at t)))
  later j f minus within low int_part None here =
      (rw here (rw here refl), whole-number j f minus int_part)
  later j f minus within low int_part (Some c) here =
      if_case (λ x. AgreeAsInteger x (with_value t i (span_then (fraction_at t f) (exponent_at t)))) (is_float_sign c)
      (taken float_seen f) (taken (int_seen (number_value (slice_range t i f))) f)
      (λ sign. float (span_then (fraction_at t f) (exponent_at t)) refl sign)
      (λ none. let apart = no_point c none in
      (rw (here, apart.0) (rw (here, apart.1) refl), whole-number j f minus int_part)) where
        float : (x : Span) → span_then (fraction_at t f) (exponent_at t) ≡ x → is_float_sign c ≡ true
            → AgreeAsInteger (taken float_seen f) (with_value t i x)
        float (taken u e) h sign =
            float-is _ _ (number_value-tail t i f e low (point-long f e c here sign h) within h)
        float (failed k x) h sign = tt

  after : (j : ℕ) → IsMinusTo t i j → i ≤ length t → (x : Span) → int_part_at t j ≡ x
      → AgreeAsInteger (integer_after t i x) (with_value t i (decimal_at t j))
  after j minus within (failed k x) h = rw h refl
  after j minus within (taken u f) h =
      let part = int_part_at-sound t j f h in
      let long = stands-length t j f part.0 part.1 in
      let start = IsMinusTo-le t i j minus in
      rw h (later j f minus (span-within j f minus within part.0 part.1) (omega (arith, long, start)) h
      (slice_get t f)
      refl) where
        span-within : (j f : ℕ) → IsMinusTo t i j → i ≤ length t → (w : List ℕ) → Stands t j f w → f ≤ length t
        span-within j f (inl none) le w s = stands-within t j f w (omega (arith, none)) s
        span-within j f (inr m) le w s =
            stands-within t j f w (omega (arith, m.0, slice_get_within t i 45 m.1)) s

  -- a name
  named : (names : Bool) (w : List ℕ) (j at : ℕ) (k : Kind) → i ≤ j → j ≤ length t → 0 < length w
      → ((c : ℕ) → slice_get t j ≡ Some c → is_float_byte c ≡ true)
      → AgreeAsInteger (taken float_seen at) (with_value t i (if names then word_at t w j else failed k j))
  named false w j at k low within some first = tt
  named true w j at k low within some first = by (word_at t w j) refl where
    by : (x : Span) → word_at t w j ≡ x → AgreeAsInteger (taken float_seen at) (with_value t i x)
    by (taken u e) h = float-is _ _ (number_value-name t w i j e low within h some first)
    by (failed k x) h = tt

  first-is : (j c d : ℕ) → slice_get t j ≡ Some c → is_float_byte c ≡ true → slice_get t j ≡ Some d
      → is_float_byte d ≡ true
  first-is j c d here is there = let same : c ≡ d = cc in subst (λ b. is_float_byte b ≡ true) same is

  minus : (names : Bool) → i ≤ length t → slice_get t i ≡ Some 45 → (o : Option ℕ) → slice_get t (i + 1) ≡ o
      → AgreeAsInteger (integer_after_minus t i o) (with_value t i (after_minus names t (i + 1) o))
  minus names within sign None here = refl
  minus names within sign (Some c) here =
      let there = slice_get_within t (i + 1) c here in
      if_both (λ x y. AgreeAsInteger x (with_value t i y)) (c == 73) _ _ _ _
      (λ is. named names (codes "Infinity") (i + 1) (i + 1) _ (omega arith) (omega (arith, there)) (omega arith)
      (λ d got. first-is (i + 1) c d here (grind (arith, nat_tests, is)) got))
      (λ other. after (i + 1) (inr (refl, sign)) within (int_part_at t (i + 1)) refl)

  from : (names : Bool) → i ≤ length t → (o : Option ℕ) → slice_get t i ≡ o
      → AgreeAsInteger (integer_from t i o) (with_value t i (span_from names t i o))
  from names within None here = refl
  from names within (Some c) here =
      let R : Scanned Integer → Span → Type 0 = λ x y. AgreeAsInteger x (with_value t i y) in
      if_both R (c == 45) _ _ _ _
      (λ is. minus names within (sign is) (slice_get t (i + 1)) refl)
      (λ other. three R (c == 78) (c == 73) _ _ _ _ _
      (λ is. named names (codes "NaN") i i _ (omega arith) within (omega arith)
      (λ d got. first-is i c d here (grind (arith, nat_tests, is)) got))
      (λ is. named names (codes "Infinity") i i _ (omega arith) within (omega arith)
      (λ d got. first-is i c d here (grind (arith, nat_tests, is)) got))
      (after i (inl refl) within (int_part_at t i) refl)) where
        sign : (c == 45) ≡ true → slice_get t i ≡ Some 45
        sign is = let same : c ≡ 45 = grind (arith, nat_tests, is) in here ∙ ap Some same

  -- What is read as an integer, beside what is read as a number.
  pub int_at-number : (names : Bool) → i ≤ length t → AgreeAsInteger (int_at t i) (number_at names t i)
  unfolding int_at number_at
  int_at-number names within = from names within (slice_get t i) refl
