-- A number's text is read as a number, where the byte after it does not go on it.
use Rattle.jiter_scan.proofs.Words.{◌≡◌, ◌≢◌, ◌⊎◌, inl, inr, ℕ, ◌+◌, ◌≤◌, Bool, true, false, ◌||◌, List, [], ◌∷◌, ◌++◌}
use Rattle.jiter_scan.proofs.Words.{length, refl, sym, ap, ◌∙◌, subst, arith, slice_get, slice_range, Option, Some}
use Rattle.jiter_scan.proofs.Words.{None, IfSome, ◌==◌, nat_le, codes, nat_tests, ne_eqb, le-leb, cases_eq, IfSome_then}
use Rattle.jiter_scan.proofs.Words.{is_digit, digit_run_end, number_value, IsDigits, IsMinus, IsIntPart, IsFraction}
use Rattle.jiter_scan.proofs.Words.{IsSign, IsExponent, IsDecimal, IsName, IsNumberText, digit_limit, digits_from}
use Rattle.jiter_scan.proofs.Words.{after_zero, int_part_from, int_part_at, fraction_from, fraction_at, power_from}
use Rattle.jiter_scan.proofs.Words.{exponent_from, exponent_at, decimal_at, after_minus, span_from, number_span}
use Rattle.jiter_scan.proofs.Words.{with_value, number_at, continues_number, taken, Stands}
use Rattle.jiter_scan.proofs.Choices.{if-true, if-false}
use Rattle.jiter_scan.proofs.NumberSpans.{decimal_at-tail, tail-parts, span-decimal, span-minus}
use Rattle.jiter_scan.proofs.Runs.{NoDigit, run_end-complete}
use Rattle.jiter_scan.proofs.Standing.{First, stands-length, stands-split, stands-slice, stands-next}
use Rattle.jiter_scan.proofs.WordLaws.{word_at-complete}

-- the end, or a byte that does not go on a number
abbrev pub EndsNumber : Option ℕ → Type 0
EndsNumber o = IfSome o (λ c. continues_number c ≡ false)

-- neither a digit nor a point
abbrev NoPoint : ℕ → Type 0
NoPoint c = (is_digit c ≡ false) × ((c == 46) ≡ false)

-- neither a digit, a point nor an exponent's letter
abbrev NoPart : ℕ → Type 0
NoPart c = (is_digit c ≡ false) × ((c == 46) ≡ false) × (((c == 101) || (c == 69)) ≡ false)

no_part : (c : ℕ) → continues_number c ≡ false → NoPart c
no_part c h = (grind (arith, nat_tests), grind (arith, nat_tests), grind (arith, nat_tests))

power-no_point : (c : ℕ) → (c ≡ 101) ⊎ (c ≡ 69) → NoPoint c
power-no_point c (inl e) = (ap is_digit e, ap (λ x. x == 46) e)
power-no_point c (inr e) = (ap is_digit e, ap (λ x. x == 46) e)

exponent-first : (w : List ℕ) → IsExponent w → First w NoPoint
exponent-first w (inl none) = subst (λ v. First v NoPoint) (sym none) tt
exponent-first w (inr p) = subst (λ v. First v NoPoint) (sym p.is) (power-no_point p.letter p.is_letter)

fraction-first : (w : List ℕ) → IsFraction w → First w (λ c. is_digit c ≡ false)
fraction-first [] h = tt
fraction-first (c ∷ w) h = ap is_digit h.0

after_zero-complete : (j : ℕ) (o : Option ℕ) → NoDigit o → after_zero j o ≡ taken tt j
after_zero-complete j None n = refl
after_zero-complete j (Some c) n = if-false (is_digit c) _ _ n

module _ (t : List ℕ) where
  -- one digit or more
  pub digits_from-complete : (i j : ℕ) (w : List ℕ) → Stands t i j w → IsDigits w → NoDigit (slice_get t j)
      → digits_from t i (slice_get t i) ≡ taken tt j
  digits_from-complete i j [] h d n = absurd d
  digits_from-complete i j (c ∷ w) h d n =
      ap (digits_from t i) h.0 ∙ if-true (is_digit c) _ _ d.0
      ∙ ap (taken tt) (run_end-complete is_digit t i j (c ∷ w) h d n)

  int_part-zero : (i j c : ℕ) (w : List ℕ) → Stands t i j (c ∷ w) → c ≡ 48 → w ≡ [] → NoDigit (slice_get t j)
      → int_part_at t i ≡ taken tt j
  int_part-zero i j c w h z none n =
      let at : i + 1 ≡ j = subst (Stands t (i + 1) j) none h.1 in
      ap (int_part_from t i) (h.0 ∙ ap Some z)
      ∙ after_zero-complete (i + 1) (slice_get t (i + 1)) (subst (λ k. NoDigit (slice_get t k)) (sym at) n)
      ∙ ap (taken tt) at

  int_part-digits : (i j c : ℕ) (w : List ℕ) → Stands t i j (c ∷ w) → c ≢ 48 → IsDigits (c ∷ w)
      → length (c ∷ w) ≤ digit_limit → NoDigit (slice_get t j) → int_part_at t i ≡ taken tt j
  int_part-digits i j c w h z d l n =
      let run = run_end-complete is_digit t i j (c ∷ w) h d n in
      let long = stands-length t i j (c ∷ w) h in
      let few : digit_run_end t i ≤ i + digit_limit = omega arith in
      ap (int_part_from t i) h.0
      ∙ if-false (c == 48) _ _ (ne_eqb c 48 z)
      ∙ if-true (is_digit c) _ _ d.0
      ∙ if-true (nat_le (digit_run_end t i) (i + digit_limit)) _ _ (le-leb (digit_run_end t i) (i + digit_limit) few)
      ∙ ap (taken tt) run

  -- the integer part
  pub int_part_at-complete : (i j : ℕ) (w : List ℕ) → Stands t i j w → IsIntPart w → length w ≤ digit_limit
      → NoDigit (slice_get t j) → int_part_at t i ≡ taken tt j
  int_part_at-complete i j [] h is l n = absurd is
  int_part_at-complete i j (c ∷ w) h is l n = by (cases_eq c 48) is.1 where
    by : (c ≡ 48) ⊎ (c ≢ 48) → (w ≡ []) ⊎ (c ≢ 48) → int_part_at t i ≡ taken tt j
    by (inr z) x = int_part-digits i j c w h z is.0 l n
    by (inl z) (inl none) = int_part-zero i j c w h z none n
    by (inl z) (inr x) = absurd (x z)

  fraction-none : (i : ℕ) (o : Option ℕ) → IfSome o NoPoint → fraction_from t i o ≡ taken tt i
  fraction-none i None n = refl
  fraction-none i (Some c) n = if-false (c == 46) _ _ n.1

  -- the fraction
  pub fraction_at-complete : (i j : ℕ) (w : List ℕ) → Stands t i j w → IsFraction w → IfSome (slice_get t j) NoPoint
      → fraction_at t i ≡ taken tt j
  fraction_at-complete i j [] h is n =
      fraction-none i (slice_get t i) (subst (λ k. IfSome (slice_get t k) NoPoint) (sym h) n) ∙ ap (taken tt) h
  fraction_at-complete i j (c ∷ w) h is n =
      ap (fraction_from t i) (h.0 ∙ ap Some is.0)
      ∙ digits_from-complete (i + 1) j w h.1 is.1 (IfSome_then (slice_get t j) n (λ c p. p.0))

  power-signed : (i j s : ℕ) (digits : List ℕ) → ((s == 43) || (s == 45)) ≡ true → Stands t i j (s ∷ digits)
      → IsDigits digits → NoDigit (slice_get t j) → power_from t i (slice_get t i) ≡ taken tt j
  power-signed i j s digits is h d n =
      ap (power_from t i) h.0
      ∙ if-true ((s == 43) || (s == 45)) _ _ is
      ∙ digits_from-complete (i + 1) j digits h.1 d n

  power-unsigned : (i j : ℕ) (digits : List ℕ) → Stands t i j digits → IsDigits digits → NoDigit (slice_get t j)
      → power_from t i (slice_get t i) ≡ taken tt j
  power-unsigned i j [] h d n = absurd d
  power-unsigned i j (c ∷ w) h d n =
      ap (power_from t i) h.0
      ∙ if-false ((c == 43) || (c == 45)) _ _ (grind (arith, nat_tests))
      ∙ ap (digits_from t i) (sym h.0) ∙ digits_from-complete i j (c ∷ w) h d n

  -- the sign and the digits of an exponent
  pub power_from-complete : (i j : ℕ) (sign digits : List ℕ) → IsSign sign → IsDigits digits
      → Stands t i j (sign ++ digits) → NoDigit (slice_get t j) → power_from t i (slice_get t i) ≡ taken tt j
  power_from-complete i j sign digits (inl s) d h n =
      power-unsigned i j digits (subst (λ x. Stands t i j (x ++ digits)) s h) d n
  power_from-complete i j sign digits (inr (inl s)) d h n =
      power-signed i j 43 digits refl (subst (λ x. Stands t i j (x ++ digits)) s h) d n
  power_from-complete i j sign digits (inr (inr s)) d h n =
      power-signed i j 45 digits refl (subst (λ x. Stands t i j (x ++ digits)) s h) d n

  exponent-none : (i : ℕ) (o : Option ℕ) → IfSome o NoPart → exponent_from t i o ≡ taken tt i
  exponent-none i None n = refl
  exponent-none i (Some c) n =
      if-false ((c == 101) || (c == 69)) _ _ n.2

  exponent-letter : (i c : ℕ) → (c ≡ 101) ⊎ (c ≡ 69)
      → exponent_from t i (Some c) ≡ power_from t (i + 1) (slice_get t (i + 1))
  exponent-letter i c (inl e) = ap (λ x. exponent_from t i (Some x)) e
  exponent-letter i c (inr e) = ap (λ x. exponent_from t i (Some x)) e

  -- the exponent
  pub exponent_at-complete : (i j : ℕ) (w : List ℕ) → Stands t i j w → IsExponent w → IfSome (slice_get t j) NoPart
      → exponent_at t i ≡ taken tt j
  exponent_at-complete i j w h (inl none) n =
      let at : i ≡ j = subst (Stands t i j) none h in
      exponent-none i (slice_get t i) (subst (λ k. IfSome (slice_get t k) NoPart) (sym at) n) ∙ ap (taken tt) at
  exponent_at-complete i j w h (inr p) n =
      let s : Stands t i j (p.letter ∷ (p.sign ++ p.digits)) = subst (Stands t i j) p.is h in
      ap (exponent_from t i) s.0 ∙ exponent-letter i p.letter p.is_letter
      ∙ power_from-complete _ j p.sign p.digits p.is_sign p.are_digits s.1 (IfSome_then (slice_get t j) n (λ c q. q.0))

  -- the parts after a minus
  pub decimal_at-complete : (i e : ℕ) (int_part fraction exponent : List ℕ) → IsIntPart int_part
      → length int_part ≤ digit_limit
      → IsFraction fraction → IsExponent exponent
      → Stands t i e (int_part ++ (fraction ++ exponent)) → EndsNumber (slice_get t e) → decimal_at t i ≡ taken tt e
  decimal_at-complete i e int_part fraction exponent w l f x h n =
      let a = stands-split t i e int_part (fraction ++ exponent) h in
      let b = stands-split t a.0 e fraction exponent a.2 in
      let after : IfSome (slice_get t e) NoPart = IfSome_then (slice_get t e) n no_part in
      let k : IfSome (slice_get t b.0) NoPoint =
      stands-next t NoPoint b.0 e exponent b.2 (exponent-first exponent x)
      (IfSome_then (slice_get t e) after (λ c p. (p.0, p.1))) in
      let j : NoDigit (slice_get t a.0) =
      stands-next t (λ c. is_digit c ≡ false) a.0 b.0 fraction b.1 (fraction-first fraction f)
      (IfSome_then (slice_get t b.0) k (λ c p. p.0)) in
      decimal_at-tail t i a.0 e (int_part_at-complete i a.0 int_part a.1 w l j)
      (tail-parts t a.0 b.0 e (fraction_at-complete a.0 b.0 fraction b.1 f k)
      (exponent_at-complete b.0 e exponent b.2 x after))

  number_span-decimal : (names : Bool) (i e : ℕ) (w : List ℕ) → Stands t i e w → IsDecimal w
      → EndsNumber (slice_get t e) → number_span names t i ≡ taken tt e
  number_span-decimal names i e w h d n = by d.is_minus where
    all : Stands t i e (d.minus ++ (d.int_part ++ (d.fraction ++ d.exponent)))
    all = subst (Stands t i e) d.is h

    rest : (j : ℕ) → Stands t j e (d.int_part ++ (d.fraction ++ d.exponent)) → decimal_at t j ≡ taken tt e
    rest j s =
        decimal_at-complete j e d.int_part d.fraction d.exponent d.is_int_part d.limit d.is_fraction d.is_exponent s n

    by : IsMinus d.minus → number_span names t i ≡ taken tt e
    by (inl m) =
        span-decimal t names i e (rest i (subst (λ x. Stands t i e (x ++ (d.int_part ++ (d.fraction ++ d.exponent)))) m all))
    by (inr m) =
        let s : Stands t i e (45 ∷ (d.int_part ++ (d.fraction ++ d.exponent))) =
        subst (λ x. Stands t i e (x ++ (d.int_part ++ (d.fraction ++ d.exponent)))) m all in
        span-minus t names i e s.0 (rest (i + 1) s.1)

  span-name : (i e : ℕ) (w : List ℕ) → Stands t i e w → IsName w → number_span true t i ≡ taken tt e
  span-name i e w h (inl is) =
      let s : Stands t i e (codes "NaN") = subst (Stands t i e) is h in
      ap (span_from true t i) s.0 ∙ word_at-complete t (codes "NaN") i e s
  span-name i e w h (inr (inl is)) =
      let s : Stands t i e (codes "Infinity") = subst (Stands t i e) is h in
      ap (span_from true t i) s.0 ∙ word_at-complete t (codes "Infinity") i e s
  span-name i e w h (inr (inr is)) =
      let s : Stands t i e (codes "-Infinity") = subst (Stands t i e) is h in
      ap (span_from true t i) s.0 ∙ ap (after_minus true t (i + 1)) s.1.0
      ∙ word_at-complete t (codes "Infinity") (i + 1) e s.1

  -- all of a number
  pub number_span-complete : (names : Bool) (i e : ℕ) (w : List ℕ) → Stands t i e w → IsNumberText names w
      → EndsNumber (slice_get t e) → number_span names t i ≡ taken tt e
  number_span-complete names i e w h (inl d) n = number_span-decimal names i e w h d n
  number_span-complete names i e w h (inr x) n = ap (λ b. number_span b t i) x.0 ∙ span-name i e w h x.1

-- a number's text is read whole, where the byte after it does not go on it
pub number_at-complete : (names : Bool) (t : List ℕ) (i e : ℕ) → i ≤ e → e ≤ length t
    → IsNumberText names (slice_range t i e) → IfSome (slice_get t e) (λ c. continues_number c ≡ false)
    → number_at names t i ≡ taken (number_value (slice_range t i e)) e
unfolding number_at
number_at-complete names t i e p q is n =
    ap (with_value t i) (number_span-complete t names i e (slice_range t i e) (stands-slice t i e p q) is n)
