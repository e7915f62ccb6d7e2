-- Words and numbers in two texts with the same bytes before a place.
use Rattle.jiter_steps.proofs.Words.{◌≡◌, ℕ, ◌+◌, ◌<◌, ◌≤◌, Bool, false, List, length, refl, sym, ap, ◌∙◌, arith}
use Rattle.jiter_steps.proofs.Words.{slice_get, Option, Some, None, nat_le, true≢false, slice_get_within, nat_tests}
use Rattle.jiter_steps.proofs.Words.{Kind, is_end_kind, number_value, span_then, number_span, with_value, number_at}
use Rattle.jiter_steps.proofs.Words.{Scanned, taken, failed, Span, word_at, if_case, if-true, if-false}
use Rattle.jiter_steps.proofs.Words.{number_at-within, run_end-ahead, ScalarWithin, get-none, leb-false, is_digit}
use Rattle.jiter_steps.proofs.Words.{digit_run_end, digit_limit, within_limit, Part, Over, Rows, word}
use Rattle.jiter_scan.proofs.NumberRows.{number}
use Rattle.jiter_steps.proofs.Fault.SameSpelling.{SameBefore, range-same}
use Rattle.jiter_steps.proofs.Fault.SameRuns.{IsOfByte, run-long, run-same}

-- an end before m, where the text goes on; or an error there, of a byte by its kind
abbrev pub ShownBy : {A : Type 0} → (Kind → Type 0) → List ℕ → ℕ → Scanned A → Type 0
ShownBy OfByte t m (taken a e) = (e < m) × (e < length t)
ShownBy OfByte t m (failed k j) = (j < m) × OfByte k

abbrev pub Shown : {A : Type 0} → List ℕ → ℕ → Scanned A → Type 0
Shown t m x = ShownBy (IsOfByte t m) t m x

pub late-byte : (t : List ℕ) (m : ℕ) (k : Kind) → IsOfByte t m k → is_end_kind k ≡ false
late-byte t m k h = h.0

-- In two texts, where such a kind is none of the input's end.
module _ (OfByte : Kind → Type 0) (late : (k : Kind) → OfByte k → is_end_kind k ≡ false) (t u : List ℕ) (m : ℕ)
    (same : SameBefore t u m) where
  -- What is shown of the reading x, which begins at i, is what the reading y of the other text gives.
  abbrev pub Same : {A : Type 0} → ℕ → Scanned A → Scanned A → Type 0
  Same i x y = ShownBy OfByte t m x → (i < m) × (i < length t) × (y ≡ x)

  later : (i : ℕ) (x y : Span) → Same (i + 1) x y → Same i x y
  later i x y h s = let r = h s in (omega (arith, r.0), omega (arith, r.1), r.2)

  -- where t is over, nothing of it is shown
  hidden : (Is : Part) (i : ℕ) (x : Span) → Over Is i x → length t ≤ i → ShownBy OfByte t m x → ⊥
  hidden Is i (taken v e) h past s = omega (arith, h.0, s.1)
  hidden Is i (failed k j) h past s = true≢false (sym (ap is_end_kind h.0) ∙ late k s.1)

  byte-same : (Is : Part) (f g : Option ℕ → Span) (i : ℕ) → Over Is i (f None) → Over Is i (g None)
      → ((c : ℕ) → i < length t → Same i (f (Some c)) (g (Some c))) → Same i (f (slice_get t i)) (g (slice_get u i))
  byte-same Is f g i none also some = by (slice_get t i) refl where
    by : (o : Option ℕ) → slice_get t i ≡ o → Same i (f o) (g (slice_get u i))
    by None e s = absurd (hidden Is i (f None) none (get-none t i e) s)
    by (Some c) e s =
        let r = some c (slice_get_within t i c e) s in
        (r.0, r.1, ap g (same i c r.0 e) ∙ r.2)

  -- one part after another
  pub then-same : (i : ℕ) (x y : Span) (f g : ℕ → Span) → Same i x y → ((j : ℕ) → Same j (f j) (g j))
      → Same i (span_then x f) (span_then y g)
  then-same i (taken w j) y f g h all s =
      let rest = all j s in
      let r = h (rest.0, rest.1) in
      (r.0, r.1, ap (λ z. span_then z g) r.2 ∙ rest.2)
  then-same i (failed k j) y f g h all s = let r = h s in (r.0, r.1, ap (λ z. span_then z g) r.2)

  -- digits, and an integer part unless it is too long
  run-taken : (i : ℕ) → i < length t
      → Same {A = Unit {0}} i (taken tt (digit_run_end t i)) (taken tt (digit_run_end u i))
  run-taken i lt s =
      let ahead = run_end-ahead is_digit t i in
      (omega (arith, s.0), lt, ap (taken tt) (run-same t u m same is_digit i (digit_run_end t i) refl s.0 s.1))

  limit-same : (i : ℕ) → i < length t → Same i (within_limit i (digit_run_end t i)) (within_limit i (digit_run_end u i))
  limit-same i lt =
      if_case (λ x. Same i x (within_limit i (digit_run_end u i))) (nat_le (digit_run_end t i) (i + digit_limit)) _ _
      (λ le s.
      let run = run-same t u m same is_digit i (digit_run_end t i) refl s.0 s.1 in
      ((run-taken i lt s).0, lt, ap (within_limit i) run ∙ if-true _ _ _ le))
      (λ gt s.
      let long = leb-false (digit_run_end t i) (i + digit_limit) gt in
      let more = run-long t u m same is_digit i (digit_limit + 1) (omega arith) (omega (arith, s.0)) (omega arith) in
      (omega (arith, s.0), lt, if-false (nat_le _ (i + digit_limit)) _ _ (grind (arith, nat_tests, more))))

  rows : Rows t u (λ i c. i < length t) (λ Is i x y. Same i x y)
  rows = record {
    byte = byte-same;
    none = λ Is i is s. (s.0, s.1, refl);
    fault = λ Is k i c lt r s. (s.0, lt, refl);
    run = λ i c lt d. run-taken i lt;
    limit = λ i c lt d other. limit-same i lt;
    after = λ Is Then i c x y lt all. later i x y;
    weaker = λ Is Then i x y all h. h;
    joined = λ A B i x y f g none. then-same i x y f g;
  }

  pub word-same : (w : List ℕ) (i : ℕ) → Same i (word_at t w i) (word_at u w i)
  word-same = word t u (λ i c. i < length t) (λ Is i x y. Same i x y) rows

  -- the number, from its span
  value-same : (i : ℕ) (x y : Span) → ScalarWithin t i (with_value t i x) → Same i x y
      → Same i (with_value t i x) (with_value u i y)
  value-same i (taken w e) y h all s =
      let r = all s in
      let range = range-same t u m same i e (omega (arith, h.0)) (omega (arith, s.0)) h.1 in
      (r.0, r.1, ap (with_value u i) r.2 ∙ ap (λ b. taken (number_value b) e) range)
  value-same i (failed k j) y h all s = let r = all s in (r.0, r.1, ap (with_value u i) r.2)

  pub number-same : (names : Bool) (i : ℕ) → i < length t → Same i (number_at names t i) (number_at names u i)
  unfolding number_at
  number-same names i lt =
      value-same i (number_span names t i) (number_span names u i) (number_at-within names t i lt)
      (number t u (λ i c. i < length t) (λ Is i x y. Same i x y) rows names i)
