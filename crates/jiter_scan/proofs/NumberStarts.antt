-- What a number begins with, after its minus: a name or a digit.
use Rattle.jiter_scan.proofs.Words.{number_span, ◌≡◌, ◌≢◌, inl, inr, ℕ, ◌+◌, ◌<◌, ◌≤◌, ◌==◌, Bool, true, false, List}
use Rattle.jiter_scan.proofs.Words.{length, get_or, ◌||◌, ◌⊎◌, refl, sym, ap, ap₂, ◌∙◌, subst, arith, ◌-◌, ◌&&◌, ◌∷◌}
use Rattle.jiter_scan.proofs.Words.{[], drop, take, slice_range, Option, Some, None, slice_get, if◌then◌else◌, codes}
use Rattle.jiter_scan.proofs.Words.{cases_lt, eq-eqb, eqb-true, eqb-false, false≢true, ne_eqb, slice_get-get_or}
use Rattle.jiter_scan.proofs.Words.{slice_get_within, get_or_from_slice_get, is_float_byte, is_integral, number_value}
use Rattle.jiter_scan.proofs.Words.{IsMinusTo, IsSpan, skip_minus, after_minus, span_from, span_then, fraction_at}
use Rattle.jiter_scan.proofs.Words.{exponent_at, decimal_at, int_part_at, int_at, int_part_from, int_seen}
use Rattle.jiter_scan.proofs.Words.{integer_after, integer_after_minus, integer_from, integer_or_float, is_float_sign}
use Rattle.jiter_scan.proofs.Words.{GoesTo, is_int_stage, number_from, tail_at, taken, Stands, Span, word_at, Stage}
use Rattle.jiter_scan.proofs.Words.{Kind, after_zero, digit_run_end, failed, is_digit, nat_le, and-false, leb-false}
use Rattle.jiter_scan.proofs.Words.{same_Some, IsNameFrom, IsDecimalFrom, IsFloatText, non_finite_span, float_seen, IfNone}
use Rattle.jiter_scan.proofs.Words.{is_some}
use Rattle.jiter_scan.specs.declared.number.partial_number.Stage.TheVariants as stage
use Rattle.jiter_scan.specs.declared.number.number_span.Span.TheVariants as found
use Rattle.jiter_scan.proofs.Choices.{if_case, if_gives, if-true, if-false}
use Rattle.jiter_scan.proofs.NumberBytes.{given-ascii, IsMinusTo-le, IsAscii-decimal, IsAscii-name}
use Rattle.jiter_scan.proofs.Digits.{digit-bounds}
use Rattle.jiter_scan.proofs.FastNumbers.{decimal_at-int_part, decimal_at-over, tail-past}
use Rattle.jiter_scan.proofs.NumberSpans.{byte-got, decimal-digit}
use Rattle.jiter_scan.proofs.NumberParts.{goes-reads, integral-append}
use Rattle.jiter_scan.proofs.Magnitudes.{are_digits}
use Rattle.jiter_scan.proofs.NumberRows.{IntPart}
use Rattle.jiter_scan.proofs.Runs.{run_end-ahead, run_end-here, run_end-more}
use Rattle.jiter_scan.proofs.NumberSound.{IsPast, int_part_at-sound}
use Rattle.jiter_scan.proofs.NumberValues.{digits-no_float, number_value-name}
use Rattle.jiter_scan.proofs.OpenValues.{float-value, int-digits}
use Rattle.jiter_scan.proofs.Standing.{slice_range-split, stands-length}

module _ (t : List ℕ) (i : ℕ) where
  module _ (minus : slice_get t i ≡ Some 45) where
    minus-infinity : slice_get t (i + 1) ≡ Some 73 → IsNameFrom t (codes "Infinity") i (i + 1)
    unfolding int_at
    minus-infinity q =
        let other = if-false ((i + 1) == i) _ _ (ne_eqb (i + 1) i (λ r. omega (arith, r))) in
        record {
          span = λ names.
              ap (span_from names t i) minus ∙ ap (after_minus names t (i + 1)) q
              ∙ ap (λ x. if names then word_at t (codes "Infinity") (i + 1) else x) (sym other);
          integer = ap (integer_from t i) minus ∙ ap (integer_after_minus t i) q;
          minus = inr (refl, minus);
          within = slice_get_within t (i + 1) 73 q;
          first = ap is_float_byte (get_or_from_slice_get t (i + 1) 73 0 q);
          some = omega arith;
          ascii = given-ascii (codes "Infinity") (codes "Infinity") refl refl;
        }

    minus-decimal : (o : Option ℕ) → slice_get t (i + 1) ≡ o → ((c : ℕ) → o ≡ Some c → c ≢ 73)
        → IsDecimalFrom t i (i + 1)
    unfolding int_at
    minus-decimal None q other =
        record {
          span = λ names.
              ap (span_from names t i) minus ∙ ap (after_minus names t (i + 1)) q
              ∙ sym
              (ap
              (λ x.
              span_then (int_part_from t (i + 1) x) (λ j. span_then (fraction_at t j) (λ k. exponent_at t k))) q);
          integer = ap (integer_from t i) minus ∙ ap (integer_after_minus t i) q
              ∙ sym (ap (λ x. integer_after t i (int_part_from t (i + 1) x)) q);
        }
    minus-decimal (Some c) q other =
        let no = ne_eqb c 73 (other c refl) in
        record {
          span = λ names.
              ap (span_from names t i) minus ∙ ap (after_minus names t (i + 1)) q ∙ if-false (c == 73) _ _ no;
          integer = ap (integer_from t i) minus ∙ ap (integer_after_minus t i) q ∙ if-false (c == 73) _ _ no;
        }

  -- no minus
  alone-infinity : slice_get t i ≡ Some 73 → IsNameFrom t (codes "Infinity") i i
  unfolding int_at
  alone-infinity q =
      record {
        span = λ names.
            ap (span_from names t i) q
            ∙ ap (λ x. if names then word_at t (codes "Infinity") i else x) (sym (if-true (i == i) _ _ (eq-eqb i i refl)));
        integer = ap (integer_from t i) q;
        minus = inl refl;
        within = slice_get_within t i 73 q;
        first = ap is_float_byte (get_or_from_slice_get t i 73 0 q);
        some = omega arith;
        ascii = given-ascii (codes "Infinity") (codes "Infinity") refl refl;
      }

  alone-nan : slice_get t i ≡ Some 78 → IsNameFrom t (codes "NaN") i i
  unfolding int_at
  alone-nan q =
      record {
        span = λ names.
            ap (span_from names t i) q
            ∙ ap (λ x. if names then word_at t (codes "NaN") i else x) (sym (if-true (i == i) _ _ (eq-eqb i i refl)));
        integer = ap (integer_from t i) q;
        minus = inl refl;
        within = slice_get_within t i 78 q;
        first = ap is_float_byte (get_or_from_slice_get t i 78 0 q);
        some = omega arith;
        ascii = given-ascii (codes "NaN") (codes "NaN") refl refl;
      }

  alone-decimal : (c : ℕ) → slice_get t i ≡ Some c → c ≢ 45 → c ≢ 78 → c ≢ 73 → IsDecimalFrom t i i
  unfolding int_at
  alone-decimal c q minus n capital =
      let no_n = ne_eqb c 78 n in
      let no_i = ne_eqb c 73 capital in
      record {
        span = λ names.
            ap (span_from names t i) q ∙ if-false (c == 45) _ _ (ne_eqb c 45 minus) ∙ if-false (c == 78) _ _ no_n
            ∙ if-false (c == 73) _ _ no_i;
        integer = ap (integer_from t i) q ∙ if-false (c == 45) _ _ (ne_eqb c 45 minus)
            ∙ if-false ((c == 78) || (c == 73)) _ _ (ap (λ b. b || (c == 73)) no_n ∙ no_i);
      }

-- either
module _ (t : List ℕ) (i j : ℕ) (inside : i < length t) (start : j ≡ skip_minus t i) where
  signed : (P : ℕ → Type 0) → (slice_get t i ≡ Some 45 → P (i + 1)) → (get_or t i 0 ≢ 45 → P i) → P j
  signed P minus none =
      subst P (sym start)
      (if_case P (get_or t i 0 == 45) (i + 1) i (λ yes. minus (byte-got t i 45 inside (eqb-true (get_or t i 0) 45 yes)))
      (λ no. none (eqb-false (get_or t i 0) 45 no)))

  pub name-infinity : slice_get t j ≡ Some 73 → IsNameFrom t (codes "Infinity") i j
  name-infinity =
      signed (λ k. slice_get t k ≡ Some 73 → IsNameFrom t (codes "Infinity") i k) (λ m. minus-infinity t i m)
      (λ n. alone-infinity t i)

  pub name-nan : slice_get t j ≡ Some 78 → j ≡ i → IsNameFrom t (codes "NaN") i j
  name-nan q same = rw same (alone-nan t i (rw (← same) q))

  -- no letter of a name there: a minus and an N are no name
  pub no-name : ((c : ℕ) → slice_get t j ≡ Some c → (c ≢ 73) × (c ≡ 78 → j ≢ i)) → IsDecimalFrom t i j
  no-name =
      signed (λ k. ((c : ℕ) → slice_get t k ≡ Some c → (c ≢ 73) × (c ≡ 78 → k ≢ i)) → IsDecimalFrom t i k)
      (λ m h. minus-decimal t i m (slice_get t (i + 1)) refl (λ c q. (h c q).0))
      (λ n h.
      let c = get_or t i 0 in
      let here = slice_get-get_or t i 0 inside in
      alone-decimal t i c here n (λ q. (h c here).1 q refl) (h c here).0)

-- A decimal number that is its integer part alone is read as an integer.
module _ (t : List ℕ) (i j e : ℕ) (inside : i < length t) (start : j ≡ skip_minus t i)
    (int_part : int_part_at t j ≡ taken tt e) (decimal : decimal_at t j ≡ taken tt e) where
  -- its first byte is a digit, and no letter of a name
  decimal-begins : IsDecimalFrom t i j
  decimal-begins =
      let d = decimal-digit t j e decimal in
      let b = digit-bounds d.0 d.2 in
      no-name t i j inside start
      (λ c here.
      let same = same_Some c d.0 (sym here ∙ d.1) in
      (λ q. omega (arith, same, q, b.1), λ q. absurd (omega (arith, same, q, b.1))))

  -- and no part of a float follows it
  ended : (o : Option ℕ) → slice_get t e ≡ o
      → integer_or_float t i e o ≡ taken (int_seen (number_value (slice_range t i e))) e
  ended None h = refl
  ended (Some c) h =
      if_case (λ x. x ≡ taken (int_seen (number_value (slice_range t i e))) e) (is_float_sign c) _ _
      (λ sign.
      let tail = ap (λ x. span_then x (tail_at t)) (sym int_part) ∙ decimal in
      absurd (omega (arith, (subst (IsPast (e + 1) (length t)) tail (tail-past t e c h sign)).0)))
      (λ _. refl)

  pub int_at-alone : int_at t i ≡ taken (int_seen (number_value (slice_range t i e))) e
  int_at-alone = decimal-begins.integer ∙ ap (integer_after t i) int_part ∙ ended (slice_get t e) refl

-- a decimal number goes through the stages from the one after its minus
minus-stage : (t : List ℕ) (j : ℕ) → decimal_at t j ≡ number_from false stage.Minus t j
minus-stage t j = by (slice_get t j) refl where
  read : Option ℕ → Span
  read o = span_then (int_part_from t j o) (tail_at t)

  by : (o : Option ℕ) → slice_get t j ≡ o → decimal_at t j ≡ after_minus false t j o
  by None h = ap read h
  by (Some c) h =
      if_case (λ x. decimal_at t j ≡ x) (c == 73) _ _ (λ yes. ap read (h ∙ ap (λ b. Some b) (eqb-true c 73 yes)))
      (λ no. refl)

pub decimal-stages : (t : List ℕ) (j : ℕ) (s : Stage) (e : ℕ) → GoesTo stage.Minus t j s e
    → decimal_at t j ≡ number_from false s t e
decimal-stages t j s e go = minus-stage t j ∙ goes-reads false stage.Minus s t j e go

pub found_span : (names : Bool) (t : List ℕ) (i j : ℕ) (s : Stage) (e : ℕ) → IsDecimalFrom t i j
    → GoesTo stage.Minus t j s e → number_span names t i ≡ number_from false s t e
found_span names t i j s e begins go = begins.span names ∙ decimal-stages t j s e go

-- the digits of an integer part end where the run does, and what is wrong with them is no later
abbrev IsIntRead : List ℕ → ℕ → Span → Type 0
IsIntRead t j (taken u e) = e ≡ digit_run_end t j
IsIntRead t j (failed k m) = m ≤ digit_run_end t j

int-read : (t : List ℕ) (j : ℕ) → IsIntRead t j (int_part_at t j)
int-read t j = by (slice_get t j) refl where
  end : ℕ
  end = digit_run_end t j

  zero : (o : Option ℕ) → slice_get t (j + 1) ≡ o → end ≡ digit_run_end t (j + 1) → IsIntRead t j (after_zero (j + 1) o)
  zero None h more = sym (more ∙ run_end-here is_digit t (j + 1) None h tt)
  zero (Some c) h more =
      if_case (IsIntRead t j) (is_digit c) _ _ (λ _. omega (arith, more, run_end-ahead is_digit t (j + 1)))
      (λ no. sym (more ∙ run_end-here is_digit t (j + 1) (Some c) h no))

  by : (o : Option ℕ) → slice_get t j ≡ o → IsIntRead t j (int_part_from t j o)
  by None h = run_end-ahead is_digit t j
  by (Some c) h =
      if_case (IsIntRead t j) (c == 48) _ _
      (λ is. zero (slice_get t (j + 1)) refl (run_end-more is_digit t j c h (ap is_digit (eqb-true c 48 is))))
      (λ _. if_case (IsIntRead t j) (is_digit c) _ _
      (λ _. if_case (IsIntRead t j) (nat_le end (j + 4300)) _ _ (λ _. refl)
      (λ many. let more = leb-false end (j + 4300) many in omega arith))
      (λ _. run_end-ahead is_digit t j))

-- the number's digits begin there where no name does
pub begins-decimal : {A : Type 0} (o : Option A) (t : List ℕ) (i j : ℕ) → IfNone o (IsDecimalFrom t i j)
    → is_some o ≡ false → IsDecimalFrom t i j
begins-decimal None t i j h e = h
begins-decimal (Some x) t i j h e = absurd (cc)

-- What is read as an integer: its digits, unless a float shows after them. An error after the digits is a float's.
module _ (t : List ℕ) (i j : ℕ) (begins : IsDecimalFrom t i j) (s : Stage) (e : ℕ) (go : GoesTo stage.Minus t j s e) where
  abbrev digits : ℕ
  digits = digit_run_end t j

  record Fails : Type 0 where
    kind : Kind
    place : ℕ
    int : int_at t i ≡ failed kind place
    decimal : decimal_at t j ≡ failed kind place
    within : place ≤ digits

  record Shows : Type 0 where
    int : int_at t i ≡ taken float_seen digits
    within : digits < length t
    decimal : IsPast (digits + 1) (length t) (decimal_at t j)

  abbrev Shape : Type 0
  Shape = Fails ⊎ (Shows ⊎ (decimal_at t j ≡ taken tt digits))

  shape : Shape
  shape = by (int_part_at t j) refl where
    ends : int_part_at t j ≡ taken tt digits → (o : Option ℕ) → slice_get t digits ≡ o → Shape
    ends int_part None h = inr (inr (decimal_at-over t j digits int_part h))
    ends int_part (Some c) h = sign (is_float_sign c) refl where
      sign : (b : Bool) → is_float_sign c ≡ b → Shape
      sign true is = inr (inl (record {
        int = begins.integer ∙ ap (integer_after t i) int_part ∙ ap (integer_or_float t i digits) h
            ∙ if-true (is_float_sign c) _ _ is;
        within = slice_get_within t digits c h;
        decimal = subst (λ x. IsPast (digits + 1) (length t) (span_then x (tail_at t))) (sym int_part)
            (tail-past t digits c h is);
      }))
      sign false none = inr (inr (decimal_at-int_part t j digits c int_part h none))

    by : (x : Span) → int_part_at t j ≡ x → Shape
    by (failed k m) q = inl (record {
      kind = k;
      place = m;
      int = begins.integer ∙ ap (integer_after t i) q;
      decimal = ap (λ x. span_then x (tail_at t)) q;
      within = subst (IsIntRead t j) q (int-read t j);
    })
    by (taken u d) q =
        let same : d ≡ digits = subst (IsIntRead t j) q (int-read t j) in
        ends (q ∙ ap (taken tt) same) (slice_get t digits) refl

  pub int_at-fault : (k : Kind) (m : ℕ) → number_from false s t e ≡ failed k m → m ≤ digits → int_at t i ≡ failed k m
  int_at-fault k m h le =
      let read : decimal_at t j ≡ failed k m = decimal-stages t j s e go ∙ h in
      elim shape [
        | inl f ↦ let both = sym f.decimal ∙ read in
            let kind : f.kind ≡ k = cc in
            let place : f.place ≡ m = cc in
            f.int ∙ ap₂ (λ a b. failed a b) kind place
        | inr (inl f) ↦ let past : digits + 1 ≤ m = subst (IsPast (digits + 1) (length t)) read f.decimal in
            absurd (omega (arith, past, le))
        | inr (inr f) ↦ let both = sym f ∙ read in absurd (cc)
      ]

  -- the number ends with a float's stage, or fails after the digits
  abbrev pub IsFloat : Span → Type 0
  IsFloat (taken u d) = (d ≡ e) × (is_int_stage s ≡ false)
  IsFloat (failed k m) = digits < m

  no-float : IsFloat (taken tt digits) → ⊥
  no-float float =
      let plain = digits-no_float (slice_range t j digits)
      (are_digits t j digits (omega arith) (omega arith) (omega (arith, float.0, go.within))) in
      let whole : is_integral (slice_range t j e) ≡ true =
      ap (λ k. is_integral (slice_range t j k)) (sym float.0) ∙ ap (λ (b : Bool). if b then false else true) plain in
      false≢true (sym float.1 ∙ go.int ∙ whole)

  seen : (x : Span) → number_from false s t e ≡ x → IsFloat x → (int_at t i ≡ taken float_seen digits) × (digits < length t)
  seen x h float =
      let read : decimal_at t j ≡ x = decimal-stages t j s e go ∙ h in
      elim shape [
        | inl f ↦ absurd (omega (arith, f.within, subst IsFloat (sym read ∙ f.decimal) float))
        | inr (inl f) ↦ (f.int, f.within)
        | inr (inr f) ↦ absurd (no-float (subst IsFloat (sym read ∙ f) float))
      ]

  pub int_at-float : (x : Span) → number_from false s t e ≡ x → IsFloat x → i ≤ j → (run : ℕ) → run ≡ digits
      → (int_at t i ≡ taken float_seen run) × (i ≤ run) × (run < length t)
  int_at-float x h float le run is =
      let r = seen x h float in (r.0 ∙ ap (taken float_seen) (sym is), omega arith, omega (arith, r.1))

pub int_part-some : (t : List ℕ) (i e : ℕ) → int_part_at t i ≡ taken tt e → i < e
int_part-some t i e h = by (int_part_at-sound t i e h) where
  by : (w : List ℕ) × Stands t i e w × IntPart w → i < e
  by ([], s, is) = absurd is.0
  by (c ∷ w, s, is) = omega (arith, stands-length t i e (c ∷ w) s)

float-some : (t : List ℕ) (i e : ℕ) → is_integral (slice_range t i e) ≡ false → i < e
float-some t i e h =
    elim (cases_lt i e) [
      | inl some ↦ some
      | inr none ↦ let count : e - i ≡ 0 = omega arith in
          absurd (false≢true (sym h ∙ ap (λ n. is_integral (take n (drop i t))) count))
    ]

-- what was found there
module _ (t : List ℕ) (i j : ℕ) where
  module _ (s : Stage) (e : ℕ) (minus : IsMinusTo t i j) (go : GoesTo stage.Minus t j s e)
      (ends : number_from false s t e ≡ taken tt e) where
    read : decimal_at t j ≡ taken tt e
    read = decimal-stages t j s e go ∙ ends

    pub found_int : is_int_stage s ≡ true → IsSpan t i (found.Int j e)
    found_int int =
        let digits = int-digits t j j e (omega arith) go.within (sym go.int ∙ int) read in
        (minus, digits, int_part-some t j e digits, go.within)

    pub found_alone : i < length t → j ≡ skip_minus t i → is_int_stage s ≡ true
        → (int_at t i ≡ taken (int_seen (number_value (slice_range t i e))) e) × IsSpan t i (found.Int j e)
    found_alone inside start int = (int_at-alone t i j e inside start (found_int int).1 read, found_int int)

    pub found_float : is_int_stage s ≡ false → IsFloatText t i e
    found_float other =
        let is : is_integral (slice_range t i e) ≡ false =
        ap is_integral (slice_range-split t i j (IsMinusTo-le t i j minus) e go.ahead)
        ∙ integral-append (slice_range t i j) (slice_range t j e)
        ∙ ap (λ b. is_integral (slice_range t i j) && b) (sym go.int ∙ other)
        ∙ and-false (is_integral (slice_range t i j)) in
        record {
          value = float-value (slice_range t i e) is;
          ascii = IsAscii-decimal t i j e minus read;
          some = float-some t i e is;
          within = go.within;
        }

  allowed : (names : Bool) (w : List ℕ) (e : ℕ) → non_finite_span names t w i j ≡ taken tt e → word_at t w j ≡ taken tt e
  allowed true w e h = h
  allowed false w e h = if_gives (j == i) _ _ _ h (λ q r. absurd (cc)) (λ q r. absurd (cc))

  pub name-text : (names : Bool) (w : List ℕ) (e : ℕ) → IsNameFrom t w i j → taken tt e ≡ non_finite_span names t w i j
      → e ≡ j + length w → e ≤ length t → IsFloatText t i e
  name-text names w e name read end within =
      let word = allowed names w e (sym read) in
      let low = IsMinusTo-le t i j name.minus in
      let first : (c : ℕ) → slice_get t j ≡ Some c → is_float_byte c ≡ true =
      λ c q. ap is_float_byte (sym (get_or_from_slice_get t j c 0 q)) ∙ name.first in
      record {
        value = number_value-name t w i j e low (omega (arith, name.within)) word name.some first;
        ascii = IsAscii-name t w i j e name.minus word name.ascii;
        some = omega (arith, low, end, name.some);
        within = within;
      }
