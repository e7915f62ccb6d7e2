-- What is printed of a number is a number's text, and stands for the same number.
use Rattle.std.proofs.Common.{◌≡◌, ◌≢◌, ◌⊎◌, inl, inr, ℕ, ℤ, pos, negsuc, zero, suc, ◌+◌, ◌-◌, ◌*◌, ◌/◌, ◌%◌, ◌^◌, ◌<◌}
use Rattle.std.proofs.Common.{◌≤◌, Bool, true, false, List, [], ◌∷◌, ◌++◌, length, refl, sym, ap, ◌∙◌, subst, arith}
use Rattle.std.specs.Prelude.{◌==◌, if◌then◌else◌, nat_lt, nat_le}
use Rattle.std.specs.Fmt.{decimal, signed_decimal}
use Rattle.std.proofs.lemmas.Bool.{lt-ltb, le-leb, ltb-true, leb-true}
use Rattle.std.proofs.lemmas.Bool.Decides.{nat_tests}
use Rattle.std.proofs.lemmas.Fmt.{decimal_by_steps, length-decimal-le}
use Rattle.jiter_scan.specs.Digits.{is_digit, decimal_of}
use Rattle.jiter_scan.specs.Number.{Number, integer, big, float, AreDigits, IsIntPart, IsDecimal, IsNumberText}
use Rattle.jiter_scan.specs.Number.{digit_limit, is_integral, minus_of, positive_value, negative_value}
use Rattle.jiter_scan.specs.Number.{integral_value, number_value}
use Rattle.jiter_scan.proofs.Digits.{decimal_of-append}
use Rattle.jiter_scan.proofs.NumberValues.{digits-no_float}
use Rattle.jiter_scan.proofs.Choices.{if_case, if-true, if-false}
use Rattle.jiter_steps.specs.Node.{number_tree}
use Rattle.jiter_print.specs.Print.{print_of}

-- ---- the digits of a number
are_digits-append : (u v : List ℕ) → AreDigits u → AreDigits v → AreDigits (u ++ v)
are_digits-append [] v h g = g
are_digits-append (c ∷ u) v h g = (h.0, are_digits-append u v h.1 g)

-- these digits are written for n
record Writes (n : ℕ) (w : List ℕ) : Type 0 where
  int_part : IsIntPart w
  value : decimal_of w ≡ n

glyph-digit : (d : ℕ) → d < 10 → is_digit (48 + d) ≡ true
glyph-digit d h = grind (arith, nat_tests)

writes-one : (n : ℕ) → n < 10 → Writes n ((48 + n) ∷ [])
writes-one n h = record { int_part = ((glyph-digit n h, tt), inl refl); value = omega arith }

writes-more : (n : ℕ) (w : List ℕ) → 10 ≤ n → Writes (n / 10) w → Writes n (w ++ ((48 + n % 10) ∷ []))
writes-more n [] l h = absurd h.int_part
writes-more n (c ∷ cs) l h =
    let last : AreDigits ((48 + n % 10) ∷ []) = (glyph-digit (n % 10) (omega arith), tt) in
    let more : decimal_of ((c ∷ cs) ++ (48 + n % 10) ∷ []) ≡ decimal_of (c ∷ cs) * 10 + (48 + n % 10 - 48) =
    decimal_of-append (c ∷ cs) ((48 + n % 10) ∷ []) ∙ omega arith in
    let prefix : decimal_of (c ∷ cs) ≡ n / 10 = h.value in
    let digits = are_digits-append cs ((48 + n % 10) ∷ []) h.int_part.0.1 last in
    record { int_part = ((h.int_part.0.0, digits), inr (λ e. first e h.int_part.1)); value = more ∙ value prefix } where
      value : decimal_of (c ∷ cs) ≡ n / 10 → decimal_of (c ∷ cs) * 10 + (48 + n % 10 - 48) ≡ n
      value e = omega (arith, e)

      first : c ≡ 48 → (cs ≡ []) ⊎ (c ≢ 48) → ⊥
      first e (inr other) = other e
      first e (inl none) =
          let v : decimal_of (c ∷ []) ≡ n / 10 = ap (λ x. decimal_of (c ∷ x)) (sym none) ∙ h.value in
          omega (arith, v, e)

decimal-writes : (n : ℕ) → n < 2 ^ 64 → Writes n (decimal n)
decimal-writes n h = decimal_by_steps Writes writes-one writes-more n h

-- ---- a number of digits alone
int_part-digits : (w : List ℕ) → IsIntPart w → AreDigits w
int_part-digits [] h = absurd h
int_part-digits (c ∷ w) h = h.0

digit-no_minus : (c : ℕ) → is_digit c ≡ true → (c == 45) ≡ false
digit-no_minus c h = grind (arith, nat_tests)

positive-value : (w : List ℕ) (n : ℕ) → IsIntPart w → decimal_of w ≡ n → n < 2 ^ 63 → number_value w ≡ integer (pos n)
unfolding number_value
positive-value [] n h e l = absurd h
positive-value (c ∷ cs) n h e l =
    if-true (is_integral (c ∷ cs)) (integral_value (c ∷ cs)) (float (c ∷ cs))
    (ap (λ (b : Bool). if b then false else true) (digits-no_float (c ∷ cs) h.0))
    ∙ if-false (c == 45) (negative_value (c ∷ cs) (decimal_of cs)) (positive_value (c ∷ cs) (decimal_of (c ∷ cs)))
    (digit-no_minus c h.0.0)
    ∙ ap (positive_value (c ∷ cs)) e
    ∙ if-true (nat_lt n (2 ^ 63)) (integer (pos n)) (big (c ∷ cs)) (lt-ltb n (2 ^ 63) l)

negative-value : (w : List ℕ) (n : ℕ) → IsIntPart w → decimal_of w ≡ n → n ≤ 2 ^ 63
    → number_value (45 ∷ w) ≡ integer (minus_of n)
unfolding number_value
negative-value w n h e l =
    if-true (is_integral (45 ∷ w)) (integral_value (45 ∷ w)) (float (45 ∷ w))
    (ap (λ (b : Bool). if b then false else true) (digits-no_float w (int_part-digits w h)))
    ∙ ap (negative_value (45 ∷ w)) e
    ∙ if-true (nat_le n (2 ^ 63)) (integer (minus_of n)) (big (45 ∷ w)) (le-leb n (2 ^ 63) l)

append-nothing : (w : List ℕ) → w ≡ w ++ ([] ++ [])
append-nothing [] = refl
append-nothing (c ∷ w) = ap (λ x. c ∷ x) (append-nothing w)

int_part-decimal : (minus w : List ℕ) → (minus ≡ []) ⊎ (minus ≡ 45 ∷ []) → IsIntPart w → length w ≤ digit_limit
    → IsDecimal (minus ++ w)
int_part-decimal minus w m h l = record {
  minus = minus;
  int_part = w;
  fraction = [];
  exponent = [];
  is = ap (λ x. minus ++ x) (append-nothing w);
  is_minus = m;
  is_int_part = h;
  limit = l;
  is_fraction = tt;
  is_exponent = inl refl;
}

-- ---- what is printed
-- 64 signed bits hold it
abbrev Fits : ℤ → Type 0
Fits (pos n) = n < 2 ^ 63
Fits (negsuc n) = n < 2 ^ 63

-- what a number's text stands for: an integer of 64 bits, or the text itself
abbrev Keeps : List ℕ → Number → Type 0
Keeps w (integer z) = Fits z
Keeps w (big v) = v ≡ w
Keeps w (float v) = v ≡ w

minus-fits : (n : ℕ) → n ≤ 2 ^ 63 → Fits (minus_of n)
minus-fits zero h = omega arith
minus-fits (suc n) h = omega arith

integral-keeps : (w : List ℕ) → Keeps w (integral_value w)
integral-keeps [] = refl
integral-keeps (c ∷ cs) =
    if_case (Keeps (c ∷ cs)) (c == 45) (negative_value (c ∷ cs) (decimal_of cs))
    (positive_value (c ∷ cs) (decimal_of (c ∷ cs)))
    (λ m. if_case (Keeps (c ∷ cs)) (nat_le (decimal_of cs) (2 ^ 63)) (integer (minus_of (decimal_of cs))) (big (c ∷ cs))
    (λ l. minus-fits (decimal_of cs) (leb-true (decimal_of cs) (2 ^ 63) l)) (λ l. refl))
    (λ m. if_case (Keeps (c ∷ cs)) (nat_lt (decimal_of (c ∷ cs)) (2 ^ 63))
    (integer (pos (decimal_of (c ∷ cs)))) (big (c ∷ cs))
    (λ l. ltb-true (decimal_of (c ∷ cs)) (2 ^ 63) l) (λ l. refl))

value-keeps : (w : List ℕ) → Keeps w (number_value w)
unfolding number_value
value-keeps w = if_case (Keeps w) (is_integral w) (integral_value w) (float w) (λ i. integral-keeps w) (λ i. refl)

-- an integer of 64 bits is written as a number's text, which stands for it
integer-again : (z : ℤ) → Fits z → IsDecimal (signed_decimal z) × (number_value (signed_decimal z) ≡ integer z)
integer-again (pos n) h =
    let w = decimal-writes n (omega arith) in
    let short : length (decimal n) ≤ digit_limit =
    omega (arith, length-decimal-le 20 n (omega arith) (omega arith) (omega arith)) in
    (int_part-decimal [] (decimal n) (inl refl) w.int_part short, positive-value (decimal n) n w.int_part w.value h)
integer-again (negsuc n) h =
    let w = decimal-writes (suc n) (omega arith) in
    let short : length (decimal (suc n)) ≤ digit_limit =
    omega (arith, length-decimal-le 20 (suc n) (omega arith) (omega arith) (omega arith)) in
    let value = negative-value (decimal (suc n)) (suc n) w.int_part w.value (omega arith) in
    (int_part-decimal (45 ∷ []) (decimal (suc n)) (inr refl) w.int_part short, value)

-- What is printed of a number's value is a number's text too, and stands for the same.
pub number-again : (names : Bool) (w : List ℕ) → IsNumberText names w
    → IsNumberText names (print_of (number_tree (number_value w)))
    × (number_value (print_of (number_tree (number_value w))) ≡ number_value w)
number-again names w h = by (number_value w) refl (value-keeps w) where
  by : (x : Number) → number_value w ≡ x → Keeps w x
      → IsNumberText names (print_of (number_tree x)) × (number_value (print_of (number_tree x)) ≡ x)
  by (integer z) e k = let r = integer-again z k in (inl r.0, r.1)
  by (big v) e k = (subst (IsNumberText names) (sym k) h, ap number_value k ∙ e)
  by (float v) e k = (subst (IsNumberText names) (sym k) h, ap number_value k ∙ e)
