-- Plain numbers as the numbers that are read.
use Rattle.jiter_scan.proofs.Words.{◌≡◌, inl, inr, ℕ, ◌+◌, ◌≤◌, Bool, true, false, List, refl, sym, ap, ◌∙◌}
use Rattle.jiter_scan.proofs.Words.{slice_range, arith, ◌^◌, slice_get, Some, pos, nat_lt, nat_le, if◌then◌else◌}
use Rattle.jiter_scan.proofs.Words.{lt-ltb, le-leb, nat_tests, integer, float, number_value, minus_of, IsMinusTo}
use Rattle.jiter_scan.proofs.Words.{number_span, with_value, number_at, taken, IsPlainInteger, IsPlainFloat}
use Rattle.jiter_scan.proofs.Choices.{if-true}
use Rattle.jiter_scan.proofs.NumberSpans.{span-decimal, span-minus}
use Rattle.jiter_scan.proofs.NumberValues.{integer_value-positive, integer_value-negative}

module _ (t : List ℕ) (names : Bool) (e : ℕ) where
  pub number_at-span : (i : ℕ) → number_span names t i ≡ taken tt e
      → number_at names t i ≡ taken (number_value (slice_range t i e)) e
  unfolding number_at
  number_at-span i h = ap (with_value t i) h

  pub plain-integer : (i n : ℕ) → IsPlainInteger t i n e → number_at names t i ≡ taken (integer (pos n)) e
  plain-integer i n s =
      number_at-span i (span-decimal t names i e s.decimal)
      ∙ ap (λ x. taken x e)
      (sym (integer_value-positive t i i e n refl s.int_part s.magnitude)
      ∙ if-true (nat_lt n (2 ^ 63)) _ _ (lt-ltb n (2 ^ 63) s.small))

  pub plain-float : (i : ℕ) → IsPlainFloat t i e → number_at names t i ≡ taken (float (slice_range t i e)) e
  plain-float i s =
      number_at-span i (span-decimal t names i e s.decimal) ∙ ap (λ x. taken x e) (s.value i (omega arith))

  module _ (i : ℕ) (minus : slice_get t i ≡ Some 45) where
    pub plain-negative_float : IsPlainFloat t (i + 1) e → number_at names t i ≡ taken (float (slice_range t i e)) e
    plain-negative_float s =
        number_at-span i (span-minus t names i e minus s.decimal) ∙ ap (λ x. taken x e) (s.value i (omega arith))

    pub plain-negative : (n : ℕ) → IsPlainInteger t (i + 1) n e → number_at names t i ≡ taken (integer (minus_of n)) e
    plain-negative n s =
        let small : n ≤ 2 ^ 63 = omega (arith, s.small) in
        number_at-span i (span-minus t names i e minus s.decimal)
        ∙ ap (λ x. taken x e)
        (sym (integer_value-negative t i (i + 1) e n (inr (refl, minus)) (omega arith) s.int_part s.magnitude)
        ∙ if-true (nat_le n (2 ^ 63)) _ _ (le-leb n (2 ^ 63) small))

-- short numbers with their sign
module _ (t : List ℕ) (names : Bool) (i e : ℕ) where
  pub short-signed : (j n : ℕ) → IsMinusTo t i j → IsPlainInteger t j n e
      → number_at names t i ≡ taken (integer (if nat_lt i j then minus_of n else pos n)) e
  short-signed j n (inl same) s =
      let no : nat_lt i j ≡ false = grind (arith, nat_tests, same) in
      rw no (plain-integer t names e i n (rw same at s))
  short-signed j n (inr (next, minus)) s =
      let yes : nat_lt i j ≡ true = grind (arith, nat_tests, next) in
      rw yes (plain-negative t names e i minus n (rw next at s))

  pub short-signed_float : (j : ℕ) → IsMinusTo t i j → IsPlainFloat t j e
      → number_at names t i ≡ taken (float (slice_range t i e)) e
  short-signed_float j (inl same) s = plain-float t names e i (rw same at s)
  short-signed_float j (inr (next, minus)) s = plain-negative_float t names e i minus (rw next at s)
