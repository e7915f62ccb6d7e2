-- What a number's text stands for.
use Rattle.jiter_scan.proofs.Words.{◌≡◌, ◌≢◌, ◌⊎◌, inl, inr, ℕ, ◌^◌, ◌<◌, ◌≤◌, ◌==◌, ◌||◌, min, Bool, true, false, cond}
use Rattle.jiter_scan.proofs.Words.{length, List, [], ◌∷◌, ◌++◌, refl, sym, ap, ◌∙◌, subst, slice_range, arith, nat_le}
use Rattle.jiter_scan.proofs.Words.{nat_lt, pos, Some, slice_get, if◌then◌else◌, list_any, cases_lt, nat_tests}
use Rattle.jiter_scan.proofs.Words.{is_digit, decimal_of, Number, AreDigits, IsIntPart, IsFraction, IsExponent, float}
use Rattle.jiter_scan.proofs.Words.{big, integer, is_float_byte, number_value, integral_value, minus_of, span_then}
use Rattle.jiter_scan.proofs.Words.{int_part_at, fraction_at, exponent_at, magnitude_of, IsMinusTo, taken, Stands}
use Rattle.jiter_scan.proofs.Words.{word_at, or_right, positive_value, negative_value}
use Rattle.jiter_scan.proofs.Choices.{if-false, span_then-taken}
use Rattle.jiter_scan.proofs.NumberSound.{int_part_at-sound, fraction_at-sound, exponent_at-sound}
use Rattle.jiter_scan.proofs.Standing.{stands-append, stands-length, stands-slice, slice-stands}
use Rattle.jiter_scan.proofs.WordLaws.{word_at-sound}

digit-no_minus : (c : ℕ) → is_digit c ≡ true → (c == 45) ≡ false
digit-no_minus c h = grind (arith, nat_tests)

digit-no_float : (c : ℕ) → is_digit c ≡ true → is_float_byte c ≡ false
digit-no_float c h = grind (arith, nat_tests)

-- digits show no float
pub digits-no_float : (w : List ℕ) → AreDigits w → list_any is_float_byte w ≡ false
digits-no_float [] h = refl
digits-no_float (c ∷ w) h = ap (λ b. b || list_any is_float_byte w) (digit-no_float c h.0) ∙ digits-no_float w h.1

-- the least number of twenty digits stands for all greater ones, where these are refused
choice-min : (test : ℕ → Bool) (held : ℕ → Number) (rest : Number) → ((m : ℕ) → 10 ^ 19 ≤ m → test m ≡ false)
    → (n : ℕ) → (if test (min n (10 ^ 19)) then held (min n (10 ^ 19)) else rest) ≡ (if test n then held n else rest)
choice-min test held rest refused n =
    elim (cases_lt n (10 ^ 19)) [
      | inl small ↦
          let same : min n (10 ^ 19) ≡ n = omega arith in ap (λ m. if test m then held m else rest) same
      | inr great ↦ if-false (test (min n (10 ^ 19))) _ _ (refused (min n (10 ^ 19)) (omega arith))
          ∙ sym (if-false (test n) _ _ (refused n great))
    ]

positive_value-min : (w : List ℕ) (n : ℕ) → positive_value w (min n (10 ^ 19)) ≡ positive_value w n
positive_value-min w n =
    choice-min (λ m. nat_lt m (2 ^ 63)) (λ m. integer (pos m)) (big w) (λ m h. grind (arith, nat_tests)) n

negative_value-min : (w : List ℕ) (n : ℕ) → negative_value w (min n (10 ^ 19)) ≡ negative_value w n
negative_value-min w n =
    choice-min (λ m. nat_le m (2 ^ 63)) (λ m. integer (minus_of m)) (big w) (λ m h. grind (arith, nat_tests)) n

-- digits alone
pub number_value-digits : (w : List ℕ) → IsIntPart w → number_value w ≡ positive_value w (magnitude_of w)
unfolding number_value
number_value-digits [] h = absurd h
number_value-digits (c ∷ cs) h =
    ap (λ (b : Bool). cond (cond b false true) (integral_value (c ∷ cs)) (float (c ∷ cs)))
    (digits-no_float (c ∷ cs) h.0)
    ∙ ap
    (λ (b : Bool). cond b (negative_value (c ∷ cs) (decimal_of cs)) (positive_value (c ∷ cs) (decimal_of (c ∷ cs))))
    (digit-no_minus c h.0.0)
    ∙ sym (positive_value-min (c ∷ cs) (decimal_of (c ∷ cs)))

-- a minus and digits
pub number_value-minus : (w : List ℕ) → IsIntPart w → number_value (45 ∷ w) ≡ negative_value (45 ∷ w) (magnitude_of w)
unfolding number_value
number_value-minus [] h = absurd h
number_value-minus (c ∷ cs) h =
    ap (λ (b : Bool). cond (cond b false true) (integral_value (45 ∷ c ∷ cs)) (float (45 ∷ c ∷ cs)))
    (digits-no_float (c ∷ cs) h.0)
    ∙ sym (negative_value-min (45 ∷ c ∷ cs) (decimal_of (c ∷ cs)))

pub any-float : (u v : List ℕ) (c : ℕ) → is_float_byte c ≡ true → list_any is_float_byte (u ++ c ∷ v) ≡ true
any-float [] v c h = ap (λ b. b || list_any is_float_byte v) h
any-float (d ∷ u) v c h = or_right (is_float_byte d) (list_any is_float_byte (u ++ c ∷ v)) (any-float u v c h)

-- a byte that only a float has
number_value-float : (u v : List ℕ) (c : ℕ) → is_float_byte c ≡ true → number_value (u ++ c ∷ v) ≡ float (u ++ c ∷ v)
unfolding number_value
number_value-float u v c h =
    ap (λ (b : Bool). cond (cond b false true) (integral_value (u ++ c ∷ v)) (float (u ++ c ∷ v))) (any-float u v c h)

-- a fraction or an exponent shows a float
pub data Tail (w : List ℕ) : Type 0 where
  no_tail : w ≡ [] → Tail w
  a_tail : (c : ℕ) (v : List ℕ) → w ≡ c ∷ v → is_float_byte c ≡ true → Tail w

pub tail : (f x : List ℕ) → IsFraction f → IsExponent x → Tail (f ++ x)
tail [] x p (inl e) = no_tail e
tail [] x p (inr e) = a_tail e.letter (e.sign ++ e.digits) e.is (by e.is_letter) where
  by : (e.letter ≡ 101) ⊎ (e.letter ≡ 69) → is_float_byte e.letter ≡ true
  by (inl l) = ap is_float_byte l
  by (inr l) = ap is_float_byte l
tail (c ∷ f) x p q = a_tail c (f ++ x) refl (ap is_float_byte p.0)

module _ (t : List ℕ) where
  float_at : (i j e c : ℕ) (v : List ℕ) → i ≤ j → j ≤ length t → Stands t j e (c ∷ v) → is_float_byte c ≡ true
      → number_value (slice_range t i e) ≡ float (slice_range t i e)
  float_at i j e c v low high s is =
      let all =
      slice-stands t i e (slice_range t i j ++ c ∷ v)
      (stands-append t i j e (slice_range t i j) (c ∷ v) (stands-slice t i j low high) s) in
      subst (λ w. number_value w ≡ float w) all (number_value-float (slice_range t i j) v c is)

  -- the text of a number with a fraction or an exponent, which is from j on
  pub number_value-tail : (i j e : ℕ) → i ≤ j → j < e → j ≤ length t
      → span_then (fraction_at t j) (exponent_at t) ≡ taken tt e
      → number_value (slice_range t i e) ≡ float (slice_range t i e)
  number_value-tail i j e low some high h =
      let b = span_then-taken _ _ _ _ h in
      let f = fraction_at-sound t j b.0 b.1 in
      let x = exponent_at-sound t b.0 e b.2 in
      by (f.0 ++ x.0) (stands-append t j b.0 e f.0 x.0 f.1 x.1) (tail f.0 x.0 f.2 x.2) where
        by : (w : List ℕ) → Stands t j e w → Tail w → number_value (slice_range t i e) ≡ float (slice_range t i e)
        by w s (no_tail none) =
            let long = stands-length t j e w s in let short = ap (λ v. length v) none in absurd (omega arith)
        by w s (a_tail c v is first) = float_at i j e c v low high (subst (Stands t j e) is s) first

  -- the text of a name, which is from j on
  pub number_value-name : (w : List ℕ) (i j e : ℕ) → i ≤ j → j ≤ length t → word_at t w j ≡ taken tt e → 0 < length w
      → ((c : ℕ) → slice_get t j ≡ Some c → is_float_byte c ≡ true)
      → number_value (slice_range t i e) ≡ float (slice_range t i e)
  number_value-name [] i j e low high h some first = absurd (omega arith)
  number_value-name (c ∷ v) i j e low high h some first =
      let s = word_at-sound t (c ∷ v) j e tt h in float_at i j e c v low high s (first c s.0)

  -- the integer from i to before e, whose digits begin at j
  pub integer_value-positive : (i j e m : ℕ) → i ≡ j → int_part_at t j ≡ taken tt e
      → m ≡ magnitude_of (slice_range t j e)
      → positive_value (slice_range t i e) m ≡ number_value (slice_range t i e)
  integer_value-positive i j e m same h value =
      let w = int_part_at-sound t j e h in
      let digits = subst IsIntPart (slice-stands t j e w.0 w.1) w.2.0 in
      subst (λ k. positive_value (slice_range t k e) m ≡ number_value (slice_range t k e)) (sym same)
      (ap (positive_value (slice_range t j e)) value ∙ sym (number_value-digits (slice_range t j e) digits))

  pub integer_value-negative : (i j e m : ℕ) → IsMinusTo t i j → i ≢ j → int_part_at t j ≡ taken tt e
      → m ≡ magnitude_of (slice_range t j e) → negative_value (slice_range t i e) m ≡ number_value (slice_range t i e)
  integer_value-negative i j e m (inl none) other h value = absurd (other (sym none))
  integer_value-negative i j e m (inr (same, at)) other h value =
      let w = int_part_at-sound t j e h in
      let digits = slice-stands t j e w.0 w.1 in
      let all = slice-stands t i e (45 ∷ w.0) (at, subst (λ k. Stands t k e w.0) same w.1) in
      subst (λ v. negative_value v m ≡ number_value v) all
      (ap (negative_value (45 ∷ w.0)) (value ∙ ap magnitude_of (sym digits)) ∙ sym (number_value-minus w.0 w.2.0))
