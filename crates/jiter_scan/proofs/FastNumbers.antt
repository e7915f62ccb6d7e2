-- Numbers whose digits end within a chunk.
use Rattle.jiter_scan.proofs.Words.{◌≡◌, ◌≢◌, ◌⊎◌, inl, inr, ℕ, ◌+◌, ◌-◌, ◌<◌, ◌≤◌, ◌==◌, ◌||◌, Bool, true, false, List}
use Rattle.jiter_scan.proofs.Words.{[], ◌∷◌, subst, length, take, drop, get_or, refl, sym, ap, ◌∙◌, slice_range, arith}
use Rattle.jiter_scan.proofs.Words.{slice_get, Option, Some, None, prefix_len, cases_lt, nat_tests, length-take}
use Rattle.jiter_scan.proofs.Words.{slice_get-get_or, slice_get_past, slice_get_within, is_digit}
use Rattle.jiter_scan.proofs.Words.{decimal_of, digit_run_end, IsDigits, IsPlainInteger, span_then, int_part_at}
use Rattle.jiter_scan.proofs.Words.{fraction_at, exponent_at, decimal_at, fraction_from, exponent_from, digits_from}
use Rattle.jiter_scan.proofs.Words.{power_from, is_float_sign, taken, Stands}
use Rattle.jiter_scan.proofs.Choices.{if-false, if-true}
use Rattle.jiter_scan.proofs.Chunks.{prefix_len-prefix, prefix_len-pass, run_end-on}
use Rattle.jiter_scan.proofs.Magnitudes.{decimal_of-few, magnitude_of-short, slice_range-count}
use Rattle.jiter_scan.proofs.NumberComplete.{int_part_at-complete}
use Rattle.jiter_scan.proofs.NumberSpans.{decimal_at-tail, tail-parts}
use Rattle.jiter_scan.proofs.NumberSound.{IsPast, digits-past, power-past}
use Rattle.jiter_scan.proofs.Runs.{run_end-ahead, run_end-passes, run_end-passing, run_end-stops, NoDigit}
use Rattle.jiter_scan.proofs.Standing.{stands-slice}

module _ (t : List ℕ) where
  -- digits that end within a chunk end in the text as in the chunk
  pub run_end-counted : (chunk : List ℕ) (i n : ℕ) → n ≡ digit_run_end chunk 0 → take n chunk ≡ slice_range t i (i + n)
      → take (n + 1) chunk ≡ slice_range t i (i + (n + 1)) → digit_run_end t i ≡ i + n
  run_end-counted chunk i n counted prefix more =
      let here : n ≤ prefix_len is_digit (drop i t) =
      prefix_len-prefix is_digit n chunk (drop i t) (prefix ∙ slice_range-count t i n) (omega arith) in
      let over : n + 1 ≤ prefix_len is_digit (drop i t) → n + 1 ≤ prefix_len is_digit (drop 0 chunk) =
      λ h. prefix_len-prefix is_digit (n + 1) (drop i t) chunk (sym (more ∙ slice_range-count t i (n + 1))) h in
      elim (cases_lt (prefix_len is_digit (drop i t)) (n + 1)) [
        | inl no_more ↦ omega arith
        | inr longer ↦ let found = over longer in absurd (omega arith)
      ]

  -- digits of a chunk are digits of the text
  pub digits-of_block : (chunk : List ℕ) (i n : ℕ) → n ≤ digit_run_end chunk 0 → take n chunk ≡ slice_range t i (i + n)
      → i + n ≤ digit_run_end t i
  digits-of_block chunk i n counted prefix =
      let here : n ≤ prefix_len is_digit (drop i t) =
      prefix_len-prefix is_digit n chunk (drop i t) (prefix ∙ slice_range-count t i n) (omega arith) in
      omega arith

  no_digit : (i e : ℕ) → digit_run_end t i ≡ e → NoDigit (slice_get t e)
  no_digit i e run = by (slice_get t e) refl where
    by : (o : Option ℕ) → slice_get t e ≡ o → NoDigit o
    by None h = tt
    by (Some c) h = run_end-stops is_digit t i c (ap (slice_get t) run ∙ h)

  -- one digit, or more of which the first is no zero
  pub int_part_at-run : (i e : ℕ) → digit_run_end t i ≡ e → i < e → e ≤ length t → e ≤ i + 4300
      → (e ≡ i + 1) ⊎ (get_or t i 0 ≢ 48) → int_part_at t i ≡ taken tt e
  int_part_at-run i e run some within few first =
      let c = get_or t i 0 in
      let cs = slice_range t (i + 1) e in
      let stands : Stands t i e (c ∷ cs) =
      (slice_get-get_or t i 0 (omega arith), stands-slice t (i + 1) e (omega arith) within) in
      let rest : e - (i + 1) ≤ prefix_len is_digit (drop (i + 1) t) =
      omega (arith, run_end-on is_digit t i 1 (omega arith) (omega arith)) in
      let others = prefix_len-pass is_digit (e - (i + 1)) (drop (i + 1) t) rest in
      let digits : IsDigits (c ∷ cs) = (run_end-passes is_digit t i i (omega arith) (omega arith), others) in
      let long : length (c ∷ cs) ≤ 4300 = omega (arith, length-take (e - (i + 1)) (drop (i + 1) t)) in
      int_part_at-complete t i e (c ∷ cs) stands (digits, by first) long (no_digit i e run)
    where
      by : (e ≡ i + 1) ⊎ (get_or t i 0 ≢ 48) → (slice_range t (i + 1) e ≡ []) ⊎ (get_or t i 0 ≢ 48)
      by (inl one) = let none : e - (i + 1) ≡ 0 = omega arith in inl (ap (λ n. take n (drop (i + 1) t)) none)
      by (inr other) = inr other

  -- a zero alone, or another digit first
  pub first-alone : (i n : ℕ) → ((get_or t i 0 ≡ 48) × (n ≡ 1)) ⊎ (get_or t i 0 ≢ 48)
      → (i + n ≡ i + 1) ⊎ (get_or t i 0 ≢ 48)
  first-alone i n (inl zero) = let one = zero.1 in inl (ap (λ k. i + k) one)
  first-alone i n (inr other) = inr other

  -- the integer part that is counted in a chunk
  module _ (chunk : List ℕ) (i n : ℕ) (counted : n ≡ digit_run_end chunk 0) (few : n ≤ 15) (reach : i + 16 ≤ length t)
      (prefix : (m : ℕ) → m ≤ 16 → i + m ≤ length t → take m chunk ≡ slice_range t i (i + m)) where
    pub digits-counted : digit_run_end t i ≡ i + n
    digits-counted =
        run_end-counted chunk i n counted (prefix n (omega arith) (omega arith))
        (prefix (n + 1) (omega arith) (omega arith))

    -- one at least, if the first byte is a digit
    pub some-counted : is_digit (get_or t i 0) ≡ true → 0 < n
    some-counted digit =
        let more = run_end-passing is_digit t i (omega arith) digit in
        omega (arith, digits-counted, more, run_end-ahead is_digit t (i + 1))

    pub int_part_at-counted : 0 < n → ((get_or t i 0 ≡ 48) × (n ≡ 1)) ⊎ (get_or t i 0 ≢ 48)
        → int_part_at t i ≡ taken tt (i + n)
    int_part_at-counted some first =
        int_part_at-run i (i + n) digits-counted (omega arith) (omega arith) (omega arith) (first-alone i n first)

  -- digits that end in the second chunk
  pub digits-in_two : (back : List ℕ) (i n : ℕ) → n ≡ digit_run_end back 0 → n ≤ 15 → i + 32 ≤ length t
      → ((m : ℕ) → m ≤ 16 → i + 16 + m ≤ length t → take m back ≡ slice_range t (i + 16) (i + 16 + m))
      → i + 16 ≤ digit_run_end t i → digit_run_end t i ≡ i + 16 + n
  digits-in_two back i n counted few reach prefix run =
      sym (run_end-on is_digit t i 16 run (omega arith))
      ∙ digits-counted back (i + 16) n counted few (omega arith) prefix

  -- one digit or more
  digits_from-run : (i e : ℕ) → digit_run_end t i ≡ e → i < e → i < length t
      → digits_from t i (slice_get t i) ≡ taken tt e
  digits_from-run i e run some inside =
      ap (digits_from t i) (slice_get-get_or t i 0 inside)
      ∙ if-true (is_digit (get_or t i 0)) _ _ (run_end-passes is_digit t i i (omega arith) (omega arith))
      ∙ ap (taken tt) run

  -- a point and digits
  pub fraction_at-run : (i e : ℕ) → slice_get t i ≡ Some 46 → digit_run_end t (i + 1) ≡ e → i + 1 < e
      → i + 1 < length t → fraction_at t i ≡ taken tt e
  fraction_at-run i e point run some inside =
      ap (fraction_from t i) point ∙ digits_from-run (i + 1) e run some inside

  -- no point
  pub fraction_at-none : (i c : ℕ) → slice_get t i ≡ Some c → (c == 46) ≡ false → fraction_at t i ≡ taken tt i
  fraction_at-none i c here no_point =
      ap (fraction_from t i) here
      ∙ if-false (c == 46) _ _ no_point

  -- a letter and digits, a sign between them or not
  pub exponent_at-run : (i s e c : ℕ) → slice_get t i ≡ Some c → ((c == 101) || (c == 69)) ≡ true
      → power_from t (i + 1) (slice_get t (i + 1)) ≡ digits_from t s (slice_get t s)
      → digit_run_end t s ≡ e → s < e → s < length t → exponent_at t i ≡ taken tt e
  exponent_at-run i s e c here letter power run some inside =
      ap (exponent_from t i) here
      ∙ if-true ((c == 101) || (c == 69)) _ _ letter
      ∙ power ∙ digits_from-run s e run some inside

  -- no letter
  pub exponent_at-none : (i c : ℕ) → slice_get t i ≡ Some c → ((c == 101) || (c == 69)) ≡ false
      → exponent_at t i ≡ taken tt i
  exponent_at-none i c here no_letter =
      ap (exponent_from t i) here
      ∙ if-false ((c == 101) || (c == 69)) _ _ no_letter

  -- no point and no exponent after it
  pub decimal_at-int_part : (i e c : ℕ) → int_part_at t i ≡ taken tt e → slice_get t e ≡ Some c
      → is_float_sign c ≡ false
      → decimal_at t i ≡ taken tt e
  decimal_at-int_part i e c int_part here no_sign =
      let letter : ((c == 101) || (c == 69)) ≡ false = grind (arith, nat_tests) in
      decimal_at-tail t i e e int_part
      (tail-parts t e e e (fraction_at-none e c here (grind (arith, nat_tests))) (exponent_at-none e c here letter))

  -- the text ends after it
  pub decimal_at-over : (i e : ℕ) → int_part_at t i ≡ taken tt e → slice_get t e ≡ None → decimal_at t i ≡ taken tt e
  decimal_at-over i e int_part none =
      decimal_at-tail t i e e int_part
      (tail-parts t e e e (ap (fraction_from t e) none) (ap (exponent_from t e) none))

  -- one digit or more, and no part of a float after them
  pub integer-run : (i m e : ℕ) → digit_run_end t i ≡ e → i < e → e ≤ length t → e ≤ i + 15
      → (e ≡ i + 1) ⊎ (get_or t i 0 ≢ 48) → (e < length t → is_float_sign (get_or t e 0) ≡ false)
      → m ≡ decimal_of (slice_range t i e) → IsPlainInteger t i m e
  integer-run i m e run some within few first next value =
      let int_part = int_part_at-run i e run some within (omega arith) first in
      record {
        int_part = int_part;
        decimal = elim (cases_lt e (length t)) [
          | inl inside ↦ decimal_at-int_part i e (get_or t e 0) int_part (slice_get-get_or t e 0 inside) (next inside)
          | inr over ↦ decimal_at-over i e int_part (slice_get_past t e over)
        ];
        magnitude = magnitude_of-short t i e (omega arith) (omega arith) within m (omega arith) value;
        small = omega (arith, decimal_of-few t i e (omega arith) (omega arith) within 15 (omega arith), value);
        some = some;
        within = within;
      }

  -- a point or an exponent takes a byte or more
  pub tail-past : (i c : ℕ) → slice_get t i ≡ Some c → is_float_sign c ≡ true
      → IsPast (i + 1) (length t) (span_then (fraction_at t i) (exponent_at t))
  tail-past i c here sign = by (c == 46) refl where
    inside : i + 1 ≤ length t
    inside = let within = slice_get_within t i c here in omega arith

    by : (b : Bool) → (c == 46) ≡ b → IsPast (i + 1) (length t) (span_then (fraction_at t i) (exponent_at t))
    by true point =
        let read = ap (fraction_from t i) here ∙ if-true (c == 46) _ _ point in
        subst (λ x. IsPast (i + 1) (length t) (span_then x (exponent_at t))) (sym read) (digits-past t (i + 1) inside)
    by false no_point =
        let letter : ((c == 101) || (c == 69)) ≡ true = grind (arith, nat_tests) in
        let power = ap (exponent_from t i) here ∙ if-true ((c == 101) || (c == 69)) _ _ letter in
        let none = ap (λ x. span_then x (exponent_at t)) (fraction_at-none i c here no_point) in
        subst (IsPast (i + 1) (length t)) (sym (none ∙ power)) (power-past t (i + 1) inside)
