-- The rows of the grammar of numbers, walked once.
--
-- A relation says of a part what its bytes are, where it begins, and how it is read: in one text, or in two. It holds
-- of whole numbers where it is kept by what the rows do: choose by a byte, take nothing or a run of digits, fail at a
-- byte, go on after one, and read one part after another. Its instances: what is read is spelled, and what is
-- refused can be ended (NumberSound); and two texts with the same bytes before a place are read the same
-- (jiter_steps, SameNumbers).
use Rattle.jiter_scan.proofs.Words.{◌≡◌, ◌≢◌, ◌⊎◌, inl, inr, ℕ, ◌+◌, ◌≤◌, Bool, true, ◌||◌, List, [], ◌∷◌, ◌++◌, length}
use Rattle.jiter_scan.proofs.Words.{refl, sym, ap, ◌∙◌, subst, arith, slice_get, Option, Some, None, ◌==◌}
use Rattle.jiter_scan.proofs.Words.{if◌then◌else◌, codes, nat_tests, eqb-true, eqb-false, is_digit, digit_run_end, Kind}
use Rattle.jiter_scan.proofs.Words.{eof_value, expected_ident, expected_value, invalid_number, IsDigits, IsMinus}
use Rattle.jiter_scan.proofs.Words.{IsIntPart, IsFraction, IsSign, IsExponent, IsDecimal, IsNumberText, digit_limit}
use Rattle.jiter_scan.proofs.Words.{span_then, digits_from, after_zero, within_limit, int_part_from, int_part_at}
use Rattle.jiter_scan.proofs.Words.{fraction_from, fraction_at, power_from, exponent_from, exponent_at, decimal_at}
use Rattle.jiter_scan.proofs.Words.{after_minus, span_from, number_span, taken, failed, Span, byte_then, word_at}
use Rattle.std.proofs.lemmas.Bool.{or_cases}
use Rattle.jiter_scan.proofs.Choices.{if_both}

-- ---- what the bytes of a part are
abbrev pub Part : Type 1
Part = List ℕ → Type 0

-- the one part, and the other after it
abbrev pub Joined : Part → Part → Part
Joined A B v = (w : List ℕ) × (x : List ℕ) × (v ≡ w ++ x) × A w × B x

-- these bytes
abbrev pub IsWord : List ℕ → Part
IsWord w v = v ≡ w

-- an integer part that is short enough
abbrev pub IntPart : Part
IntPart w = IsIntPart w × (length w ≤ digit_limit)

-- what follows the letter of an exponent; what follows an integer part; and a decimal number after its minus
abbrev pub Power : Part
Power = Joined IsSign IsDigits

abbrev pub Tail : Part
Tail = Joined IsFraction IsExponent

abbrev pub Magnitude : Part
Magnitude = Joined IntPart Tail

-- what follows a minus
abbrev pub AfterMinus : Bool → Part
AfterMinus names v = Magnitude v ⊎ ((names ≡ true) × (v ≡ codes "Infinity"))

no_tail : Tail []
no_tail = ([], [], refl, tt, inl refl)

zero-int_part : (c : ℕ) → c ≡ 48 → IntPart (c ∷ [])
zero-int_part c e = (((ap is_digit e, tt), inl refl), omega arith)

pub zero-magnitude : Magnitude (codes "0")
zero-magnitude = (codes "0", [], refl, zero-int_part 48 refl, no_tail)

sign-is : (c : ℕ) → ((c == 43) || (c == 45)) ≡ true → IsSign (c ∷ [])
sign-is c h = elim (or_cases (c == 43) (c == 45) h) [
  | inl e ↦ inr (inl (ap (λ x. x ∷ []) (eqb-true c 43 e)))
  | inr e ↦ inr (inr (ap (λ x. x ∷ []) (eqb-true c 45 e)))
]

pub power-is : (c : ℕ) → ((c == 101) || (c == 69)) ≡ true → (v : List ℕ) → Power v → IsExponent (c ∷ v)
power-is c h v p = inr (record {
  letter = c;
  sign = p.0;
  digits = p.1;
  is = ap (λ w. c ∷ w) p.2;
  is_letter = grind (arith, nat_tests, h);
  is_sign = p.3;
  are_digits = p.4;
})

pub decimal-is : (minus : List ℕ) → IsMinus minus → (v : List ℕ) → Magnitude v → IsDecimal (minus ++ v)
decimal-is minus is v m = record {
  minus = minus;
  int_part = m.0;
  fraction = m.4.0;
  exponent = m.4.1;
  is = ap (λ w. minus ++ w) (m.2 ∙ ap (λ w. m.0 ++ w) m.4.2);
  is_minus = is;
  is_int_part = m.3.0;
  limit = m.3.1;
  is_fraction = m.4.3;
  is_exponent = m.4.4;
}

minus-is : (names : Bool) (v : List ℕ) → AfterMinus names v → IsNumberText names (45 ∷ v)
minus-is names v (inl m) = inl (decimal-is (45 ∷ []) (inr refl) v m)
minus-is names v (inr n) = inr (n.0, inr (inr (ap (λ w. 45 ∷ w) n.1)))

-- ---- what a relation is asked
-- where no byte is left: nothing is taken, or the input ends too early
abbrev pub Over : Part → ℕ → Span → Type 0
Over Is i (taken u e) = (e ≡ i) × Is []
Over Is i (failed k j) = (k ≡ eof_value) × (j ≡ i)

-- nothing, or a zero, is such a part
abbrev pub Ended : Part → Type 0
Ended Is = Is [] ⊎ Is (codes "0")

-- what an error at a byte says of the part that is read
abbrev pub AllocFailed : Part → Kind → Type 0
AllocFailed Is expected_ident = Unit {0}
AllocFailed Is expected_value = Ended Is
AllocFailed Is invalid_number = Ended Is
AllocFailed Is k = ⊥

-- R is kept by what the rows do, in t and in u, where Here says of a byte that it is at a place.
pub record Rows (t u : List ℕ) (Here : ℕ → ℕ → Type 0) (R : Part → ℕ → Span → Span → Type 0) : Type 1 where
  -- a byte chooses, or there is none
  pub byte : (Is : Part) (F G : Option ℕ → Span) (i : ℕ) → Over Is i (F None) → Over Is i (G None)
      → ((c : ℕ) → Here i c → R Is i (F (Some c)) (G (Some c))) → R Is i (F (slice_get t i)) (G (slice_get u i))
  -- nothing is taken; a byte is refused; digits are taken, and those of an integer part if they are few
  pub none : (Is : Part) (i : ℕ) → Is [] → R Is i (taken tt i) (taken tt i)
  pub fault : (Is : Part) (k : Kind) (i c : ℕ) → Here i c → AllocFailed Is k → R Is i (failed k i) (failed k i)
  pub run : (i c : ℕ) → Here i c → is_digit c ≡ true
      → R IsDigits i (taken tt (digit_run_end t i)) (taken tt (digit_run_end u i))
  pub limit : (i c : ℕ) → Here i c → is_digit c ≡ true → c ≢ 48
      → R IntPart i (within_limit i (digit_run_end t i)) (within_limit i (digit_run_end u i))
  -- a part after a byte; a part of one kind as one of another; a part after a part, where the second may be nothing
  pub after : (Is Then : Part) (i c : ℕ) (x y : Span) → Here i c → ((v : List ℕ) → Is v → Then (c ∷ v))
      → R Is (i + 1) x y → R Then i x y
  pub weaker : (Is Then : Part) (i : ℕ) (x y : Span) → ((v : List ℕ) → Is v → Then v) → R Is i x y → R Then i x y
  pub joined : (A B : Part) (i : ℕ) (x y : Span) (f g : ℕ → Span) → B [] → R A i x y
      → ((j : ℕ) → R B j (f j) (g j)) → R (Joined A B) i (span_then x f) (span_then y g)

-- ---- the walk
module _ (t u : List ℕ) (Here : ℕ → ℕ → Type 0) (R : Part → ℕ → Span → Span → Type 0) (rows : Rows t u Here R) where
  pub digit : (i c : ℕ) → Here i c → R IsDigits i (digits_from t i (Some c)) (digits_from u i (Some c))
  digit i c h =
      if_both (R IsDigits i) (is_digit c) _ _ _ _ (rows.run i c h)
      (λ d. rows.fault IsDigits invalid_number i c h (inr (refl, tt)))

  pub digits : (i : ℕ) → R IsDigits i (digits_from t i (slice_get t i)) (digits_from u i (slice_get u i))
  digits i = rows.byte IsDigits (digits_from t i) (digits_from u i) i (refl, refl) (refl, refl) (digit i)

  -- after a leading zero, and the integer part
  pub zero : (i : ℕ) → R (IsWord []) i (after_zero i (slice_get t i)) (after_zero i (slice_get u i))
  zero i =
      rows.byte (IsWord []) (after_zero i) (after_zero i) i (refl, refl) (refl, refl)
      (λ c h. if_both (R (IsWord []) i) (is_digit c) _ _ _ _
      (λ d. rows.fault (IsWord []) invalid_number i c h (inl refl)) (λ d. rows.none (IsWord []) i refl))

  pub int_part : (i : ℕ) → R IntPart i (int_part_at t i) (int_part_at u i)
  int_part i =
      rows.byte IntPart (int_part_from t i) (int_part_from u i) i (refl, refl) (refl, refl)
      (λ c h. if_both (R IntPart i) (c == 48) _ _ _ _
      (λ z. rows.after (IsWord []) IntPart i c _ _ h (λ v e. rw e (zero-int_part c (eqb-true c 48 z))) (zero (i + 1)))
      (λ z. if_both (R IntPart i) (is_digit c) _ _ _ _ (λ d. rows.limit i c h d (eqb-false c 48 z))
      (λ d. rows.fault IntPart invalid_number i c h (inr (zero-int_part 48 refl)))))

  -- a fraction, or none
  pub fraction : (i : ℕ) → R IsFraction i (fraction_at t i) (fraction_at u i)
  fraction i =
      rows.byte IsFraction (fraction_from t i) (fraction_from u i) i (refl, tt) (refl, tt)
      (λ c h. if_both (R IsFraction i) (c == 46) _ _ _ _
      (λ p. rows.after IsDigits IsFraction i c _ _ h (λ v d. (eqb-true c 46 p, d)) (digits (i + 1)))
      (λ p. rows.none IsFraction i tt))

  -- an exponent, or none
  pub power : (i : ℕ) → R Power i (power_from t i (slice_get t i)) (power_from u i (slice_get u i))
  power i =
      rows.byte Power (power_from t i) (power_from u i) i (refl, refl) (refl, refl)
      (λ c h. if_both (R Power i) ((c == 43) || (c == 45)) _ _ _ _
      (λ s. rows.after IsDigits Power i c _ _ h (λ v d. (c ∷ [], v, refl, sign-is c s, d)) (digits (i + 1)))
      (λ s. rows.weaker IsDigits Power i _ _ (λ v d. ([], v, refl, inl refl, d)) (digit i c h)))

  pub exponent : (i : ℕ) → R IsExponent i (exponent_at t i) (exponent_at u i)
  exponent i =
      rows.byte IsExponent (exponent_from t i) (exponent_from u i) i (refl, inl refl) (refl, inl refl)
      (λ c h. if_both (R IsExponent i) ((c == 101) || (c == 69)) _ _ _ _
      (λ l. rows.after Power IsExponent i c _ _ h (power-is c l) (power (i + 1)))
      (λ l. rows.none IsExponent i (inl refl)))

  -- the parts of a decimal number, one after another
  pub tail : (i : ℕ) → R Tail i (span_then (fraction_at t i) (exponent_at t))
      (span_then (fraction_at u i) (exponent_at u))
  tail i = rows.joined IsFraction IsExponent i _ _ (exponent_at t) (exponent_at u) (inl refl) (fraction i) exponent

  pub decimal : (i : ℕ) → R Magnitude i (decimal_at t i) (decimal_at u i)
  decimal i =
      rows.joined IntPart Tail i _ _ (λ j. span_then (fraction_at t j) (exponent_at t))
      (λ j. span_then (fraction_at u j) (exponent_at u)) no_tail (int_part i) tail

  -- words and names
  pub word : (w : List ℕ) (i : ℕ) → R (IsWord w) i (word_at t w i) (word_at u w i)
  unfolding word_at
  word [] i = rows.none (IsWord []) i refl
  word (c ∷ w) i = by (word w (i + 1)) where
    by : R (IsWord w) (i + 1) (word_at t w (i + 1)) (word_at u w (i + 1))
        → R (IsWord (c ∷ w)) i (word_at t (c ∷ w) i) (word_at u (c ∷ w) i)
    by rest =
        rows.byte (IsWord (c ∷ w)) (byte_then (word_at t w (i + 1)) c i) (byte_then (word_at u w (i + 1)) c i) i
        (refl, refl) (refl, refl)
        (λ b h. if_both (R (IsWord (c ∷ w)) i) (b == c) _ _ _ _
        (λ e. rows.after (IsWord w) (IsWord (c ∷ w)) i b _ _ h
        (λ v s. ap (λ x. x ∷ v) (eqb-true b c e) ∙ ap (λ x. c ∷ x) s) rest)
        (λ e. rows.fault (IsWord (c ∷ w)) expected_ident i b h tt))

  name : (Is : Part) (names : Bool) (w : List ℕ) (k : Kind) (i c : ℕ) → Here i c → AllocFailed Is k
      → (names ≡ true → Is w)
      → R Is i (if names then word_at t w i else failed k i) (if names then word_at u w i else failed k i)
  name Is names w k i c h refused is =
      if_both (R Is i) names _ _ _ _ (λ n. rows.weaker (IsWord w) Is i _ _ (λ v e. rw e (is n)) (word w i))
      (λ n. rows.fault Is k i c h refused)

  signed : (names : Bool) (i : ℕ)
      → R (AfterMinus names) i (after_minus names t i (slice_get t i)) (after_minus names u i (slice_get u i))
  signed names i =
      let Is = AfterMinus names in
      rows.byte Is (after_minus names t i) (after_minus names u i) i (refl, refl) (refl, refl)
      (λ c h. if_both (R Is i) (c == 73) _ _ _ _
      (λ n. name Is names (codes "Infinity") invalid_number i c h (inr (inl zero-magnitude)) (λ all. inr (all, refl)))
      (λ n. rows.weaker Magnitude Is i _ _ (λ v m. inl m) (decimal i)))

  -- all of a number
  pub number : (names : Bool) (i : ℕ) → R (IsNumberText names) i (number_span names t i) (number_span names u i)
  number names i =
      let Is = IsNumberText names in
      let zero = inr (inl (decimal-is [] (inl refl) (codes "0") zero-magnitude)) in
      rows.byte Is (span_from names t i) (span_from names u i) i (refl, refl) (refl, refl)
      (λ c h. if_both (R Is i) (c == 45) _ _ _ _
      (λ m. rows.after (AfterMinus names) Is i c _ _ h
      (λ v s. subst (λ b. Is (b ∷ v)) (sym (eqb-true c 45 m)) (minus-is names v s)) (signed names (i + 1)))
      (λ m. if_both (R Is i) (c == 78) _ _ _ _
      (λ n. name Is names (codes "NaN") expected_value i c h zero (λ all. inr (all, inl refl)))
      (λ n. if_both (R Is i) (c == 73) _ _ _ _
      (λ f. name Is names (codes "Infinity") expected_value i c h zero (λ all. inr (all, inr (inl refl))))
      (λ f. rows.weaker Magnitude Is i _ _ (λ v d. inl (decimal-is [] (inl refl) v d)) (decimal i)))))
