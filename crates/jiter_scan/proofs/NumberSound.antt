-- What is read as a number is a number's text; an error is within the text, and a zero or nothing ends what is
-- before it, unless the input is over, the digits are too many or a name is another word.
use Rattle.jiter_scan.proofs.Words.{◌≡◌, ◌≢◌, ◌⊎◌, inl, inr, ℕ, ◌+◌, ◌≤◌, Bool, true, false, List, [], ◌∷◌, ◌++◌}
use Rattle.jiter_scan.proofs.Words.{length, drop, refl, sym, ap, ◌∙◌, subst, arith, append-nil, append_assoc, slice_get}
use Rattle.jiter_scan.proofs.Words.{slice_range, Option, Some, None, nat_le, codes, prefix_len, leb-true, false≢true}
use Rattle.jiter_scan.proofs.Words.{slice_get_within, is_digit, digit_run_end, Kind, eof_value, expected_ident}
use Rattle.jiter_scan.proofs.Words.{expected_value, invalid_number, number_out_of_range, Number, number_value}
use Rattle.jiter_scan.proofs.Words.{AreDigits, IsDigits, IsFraction, IsExponent, IsNumberText, digit_limit, span_then}
use Rattle.jiter_scan.proofs.Words.{digits_from, after_zero, within_limit, int_part_at, fraction_at, power_from}
use Rattle.jiter_scan.proofs.Words.{exponent_at, decimal_at, number_span, with_value, number_at, taken, failed}
use Rattle.jiter_scan.proofs.Words.{Stands, Span, word_at, leb-false, is_end_kind, out_of_memory, FaultAt}
use Rattle.jiter_scan.proofs.Choices.{if_case, failed-taken, same_taken}
use Rattle.jiter_scan.proofs.NumberRows.{Part, Joined, IsWord, IntPart, Power, Magnitude, Over, Ended, AllocFailed}
use Rattle.jiter_scan.proofs.NumberRows.{Rows, digits, zero, word, int_part, fraction, power, exponent, decimal, number}
use Rattle.jiter_scan.proofs.Runs.{run_end-more, run_end-sound, run_end-within}
use Rattle.jiter_scan.proofs.Standing.{get-none, stands-length, stands-within, stands-append, slice-stands}

-- an error up to which a number's text can be ended
abbrev pub can_end : Kind → Bool
can_end eof_value = false
can_end expected_ident = false
can_end number_out_of_range = false
can_end k = true

-- the bytes from p to j are such a part, or are with a zero after them
pub record Unfinished (t : List ℕ) (Is : Part) (p j : ℕ) : Type 0 where
  pub prefix : List ℕ
  pub last : List ℕ
  pub stands : Stands t p j prefix
  pub zero : (last ≡ []) ⊎ (last ≡ codes "0")
  pub is : Is (prefix ++ last)

-- the bytes of a part from i, or an error
abbrev pub Spelled : List ℕ → Part → ℕ → Span → Type 0
Spelled t Is i (taken u e) = (w : List ℕ) × Stands t i e w × Is w
Spelled t Is i (failed k j) =
    (i ≤ length t → (i ≤ j) × FaultAt t k j) × (can_end k ≡ true → Unfinished t Is i j)

-- ends or fails at i or after it, and ends within so many bytes
abbrev pub IsPast : ℕ → ℕ → Span → Type 0
IsPast i n (taken u e) = (i ≤ e) × (e ≤ n)
IsPast i n (failed k j) = i ≤ j

module _ (t : List ℕ) where
  abbrev Here : ℕ → ℕ → Type 0
  Here i c = slice_get t i ≡ Some c

  abbrev Reads : Part → ℕ → Span → Span → Type 0
  Reads Is i x y = Spelled t Is i x

  over : (Is : Part) (i : ℕ) (x : Span) → Over Is i x → slice_get t i ≡ None → Spelled t Is i x
  over Is i (taken u e) h none = ([], sym h.0, h.1)
  over Is i (failed k j) h none =
      let kind : k ≡ eof_value = h.0 in
      let past = get-none t i none in (
        λ le. (
          omega (arith, h.1),
          record { within = omega (arith, h.1); ends = λ e. omega (arith, h.1); bytes = λ m. cc },
        ),
        λ live. absurd (false≢true (sym (ap can_end kind) ∙ live)),
      )

  byte : (Is : Part) (F G : Option ℕ → Span) (i : ℕ) → Over Is i (F None) → Over Is i (G None)
      → ((c : ℕ) → Here i c → Spelled t Is i (F (Some c))) → Spelled t Is i (F (slice_get t i))
  byte Is F G i last also some = by (slice_get t i) refl where
    by : (o : Option ℕ) → slice_get t i ≡ o → Spelled t Is i (F o)
    by None e = over Is i (F None) last e
    by (Some c) e = some c e

  ended : (Is : Part) (i : ℕ) → Ended Is → Unfinished t Is i i
  ended Is i (inl is) = record { prefix = []; last = []; stands = refl; zero = inl refl; is = is }
  ended Is i (inr is) = record { prefix = []; last = codes "0"; stands = refl; zero = inr refl; is = is }

  fault-at : (Is : Part) (k : Kind) (i j : ℕ) → is_end_kind k ≡ false → k ≢ out_of_memory → i ≤ j
      → (i ≤ length t → j ≤ length t) → (can_end k ≡ true → Unfinished t Is i j) → Spelled t Is i (failed k j)
  fault-at Is k i j late m on within live =
      (λ le. (on, record { within = within le; ends = λ h. absurd (false≢true (sym late ∙ h)); bytes = m }), live)

  fault : (Is : Part) (k : Kind) (i c : ℕ) → Here i c → AllocFailed Is k → Spelled t Is i (failed k i)
  fault Is expected_ident i c h r =
      fault-at Is expected_ident i i refl (λ e. cc) (omega arith) (λ le. le) (λ live. absurd (false≢true live))
  fault Is expected_value i c h r =
      fault-at Is expected_value i i refl (λ e. cc) (omega arith) (λ le. le) (λ live. ended Is i r)
  fault Is invalid_number i c h r =
      fault-at Is invalid_number i i refl (λ e. cc) (omega arith) (λ le. le) (λ live. ended Is i r)
  fault Is k i c h r = absurd r

  run : (i c : ℕ) → Here i c → is_digit c ≡ true
      → (w : List ℕ) × Stands t i (digit_run_end t i) (c ∷ w) × AreDigits (c ∷ w)
  run i c h d =
      let more = run_end-more is_digit t i c h d in
      let r = run_end-sound is_digit t (prefix_len is_digit (drop (i + 1) t)) (i + 1) refl in
      (r.0, (h, subst (λ k. Stands t (i + 1) k r.0) (omega arith) r.1), (d, r.2))

  limit : (i c : ℕ) → Here i c → is_digit c ≡ true → c ≢ 48
      → Spelled t IntPart i (within_limit i (digit_run_end t i))
  limit i c h d other =
      let r = run i c h d in
      let long = stands-length t i (digit_run_end t i) (c ∷ r.0) r.1 in
      if_case (Spelled t IntPart i) (nat_le (digit_run_end t i) (i + digit_limit)) _ _
      (λ few.
      let l = leb-true (digit_run_end t i) (i + digit_limit) few in
      (c ∷ r.0, r.1, ((r.2, inr other), omega arith)))
      (λ many.
      let l = leb-false (digit_run_end t i) (i + digit_limit) many in
      fault-at IntPart number_out_of_range i (i + (digit_limit + 1)) refl (λ e. cc) (omega arith)
      (λ le. omega (arith, run_end-within is_digit t i le)) (λ live. absurd (false≢true live)))

  after : (Is Then : Part) (i c : ℕ) (x : Span) → Here i c → ((v : List ℕ) → Is v → Then (c ∷ v))
      → Spelled t Is (i + 1) x → Spelled t Then i x
  after Is Then i c (taken u e) h all s = (c ∷ s.0, (h, s.1), all s.0 s.2)
  after Is Then i c (failed k j) h all s = (
    λ le. let r = s.0 (omega (arith, slice_get_within t i c h)) in (omega (arith, r.0), r.1),
    λ live.
        let f = s.1 live in
        record {
          prefix = c ∷ f.prefix;
          last = f.last;
          stands = (h, f.stands);
          zero = f.zero;
          is = all (f.prefix ++ f.last) f.is;
        },
  )

  weaker : (Is Then : Part) (i : ℕ) (x : Span) → ((v : List ℕ) → Is v → Then v) → Spelled t Is i x
      → Spelled t Then i x
  weaker Is Then i (taken u e) all s = (s.0, s.1, all s.0 s.2)
  weaker Is Then i (failed k j) all s = (
    s.0,
    λ live. let f = s.1 live in record {
      prefix = f.prefix;
      last = f.last;
      stands = f.stands;
      zero = f.zero;
      is = all (f.prefix ++ f.last) f.is;
    },
  )

  joined : (A B : Part) (i : ℕ) (x : Span) (f : ℕ → Span) → B [] → Spelled t A i x
      → ((j : ℕ) → Spelled t B j (f j)) → Spelled t (Joined A B) i (span_then x f)
  joined A B i (failed k j) f none a b =
      weaker A (Joined A B) i (failed k j) (λ v is. (v, [], sym (append-nil v), is, none)) a
  joined A B i (taken u m) f none a b = then (f m) (b m) where
    then : (y : Span) → Spelled t B m y → Spelled t (Joined A B) i y
    then (taken v e) s =
        (a.0 ++ s.0, stands-append t i m e a.0 s.0 a.1 s.1, (a.0, s.0, refl, a.2, s.2))
    then (failed k j) s = (
      λ le.
          let on = stands-length t i m a.0 a.1 in
          let r = s.0 (stands-within t i m a.0 le a.1) in
          (omega (arith, r.0), r.1),
      λ live.
          let g = s.1 live in
          record {
            prefix = a.0 ++ g.prefix;
            last = g.last;
            stands = stands-append t i m j a.0 g.prefix a.1 g.stands;
            zero = g.zero;
            is = (a.0, g.prefix ++ g.last, append_assoc a.0 g.prefix g.last, a.2, g.is);
          },
    )

  reads : Rows t t Here Reads
  reads = record {
    byte = byte;
    none = λ Is i is. ([], refl, is);
    fault = fault;
    run = λ i c h d. let r = run i c h d in (c ∷ r.0, r.1, r.2);
    limit = limit;
    after = λ Is Then i c x y. after Is Then i c x;
    weaker = λ Is Then i x y. weaker Is Then i x;
    joined = λ A B i x y f g. joined A B i x f;
  }

  -- the parts and the whole, as they are spelled
  pub int_part-spelled : (i : ℕ) → Spelled t IntPart i (int_part_at t i)
  int_part-spelled i = int_part t t Here Reads reads i

  pub word-spelled : (w : List ℕ) (i : ℕ) → Spelled t (IsWord w) i (word_at t w i)
  word-spelled = word t t Here Reads reads

  pub number-spelled : (names : Bool) (i : ℕ) → Spelled t (IsNumberText names) i (number_span names t i)
  number-spelled names i = number t t Here Reads reads names i

  -- what is spelled from there ends there or after it
  spelled-past : (Is : Part) (i : ℕ) (x : Span) → i ≤ length t → Spelled t Is i x → IsPast i (length t) x
  spelled-past Is i (taken u e) le s =
      (omega (arith, stands-length t i e s.0 s.1), stands-within t i e s.0 le s.1)
  spelled-past Is i (failed k j) le s = (s.0 le).0

  -- a fraction's digits and an exponent, or an exponent's power
  pub digits-past : (i : ℕ) → i ≤ length t
      → IsPast i (length t) (span_then (digits_from t i (slice_get t i)) (exponent_at t))
  digits-past i le =
      spelled-past (Joined IsDigits IsExponent) i _ le
      (joined IsDigits IsExponent i _ (exponent_at t) (inl refl) (digits t t Here Reads reads i)
      (λ j. exponent t t Here Reads reads j))

  pub power-past : (i : ℕ) → i ≤ length t → IsPast i (length t) (power_from t i (slice_get t i))
  power-past i le = spelled-past Power i _ le (power t t Here Reads reads i)

  -- what is read is there
  pub digits-sound : (i e : ℕ) → digits_from t i (slice_get t i) ≡ taken tt e
      → (w : List ℕ) × Stands t i e w × IsDigits w
  digits-sound i e h = subst (Spelled t IsDigits i) h (digits t t Here Reads reads i)

  pub after_zero-sound : (i e : ℕ) → after_zero i (slice_get t i) ≡ taken tt e → i ≡ e
  after_zero-sound i e h =
      let r = subst (Spelled t (IsWord []) i) h (zero t t Here Reads reads i) in subst (Stands t i e) r.2 r.1

  pub int_part_at-sound : (i e : ℕ) → int_part_at t i ≡ taken tt e → (w : List ℕ) × Stands t i e w × IntPart w
  int_part_at-sound i e h = subst (Spelled t IntPart i) h (int_part-spelled i)

  pub fraction_at-sound : (i e : ℕ) → fraction_at t i ≡ taken tt e → (w : List ℕ) × Stands t i e w × IsFraction w
  fraction_at-sound i e h = subst (Spelled t IsFraction i) h (fraction t t Here Reads reads i)

  pub power-sound : (i e : ℕ) → power_from t i (slice_get t i) ≡ taken tt e
      → (w : List ℕ) × Stands t i e w × Power w
  power-sound i e h = subst (Spelled t Power i) h (power t t Here Reads reads i)

  pub exponent_at-sound : (i e : ℕ) → exponent_at t i ≡ taken tt e → (w : List ℕ) × Stands t i e w × IsExponent w
  exponent_at-sound i e h = subst (Spelled t IsExponent i) h (exponent t t Here Reads reads i)

  pub decimal_at-sound : (i e : ℕ) → decimal_at t i ≡ taken tt e → (w : List ℕ) × Stands t i e w × Magnitude w
  decimal_at-sound i e h = subst (Spelled t Magnitude i) h (decimal t t Here Reads reads i)

  pub number_span-sound : (names : Bool) (i e : ℕ) → number_span names t i ≡ taken tt e
      → IsNumberText names (slice_range t i e)
  number_span-sound names i e h =
      let r = subst (Spelled t (IsNumberText names) i) h (number-spelled names i) in
      subst (IsNumberText names) (slice-stands t i e r.0 r.1) r.2

  with_value-sound : (names : Bool) (i : ℕ) (n : Number) (e : ℕ) (x : Span) → number_span names t i ≡ x
      → with_value t i x ≡ taken n e → IsNumberText names (slice_range t i e) × (n ≡ number_value (slice_range t i e))
  with_value-sound names i n e (taken u f) s h =
      let same = same_taken _ _ _ _ h in
      let at : f ≡ e = same.1 in
      (number_span-sound names i e (s ∙ ap (taken u) at), sym same.0 ∙ ap (λ k. number_value (slice_range t i k)) at)
  with_value-sound names i n e (failed k j) s h = absurd (failed-taken _ _ _ _ h)

-- what is read is a number's text, and the value is that of the text
pub number_at-sound : (names : Bool) (t : List ℕ) (i : ℕ) (n : Number) (e : ℕ) → number_at names t i ≡ taken n e
    → IsNumberText names (slice_range t i e) × (n ≡ number_value (slice_range t i e))
unfolding number_at
number_at-sound names t i n e h = with_value-sound t names i n e (number_span names t i) refl h
