-- A second peek replies as the first, a known_ call as the next_ call, and a refused read of a scalar leaves the reader
-- where the value begins.
use Rattle.jiter.proofs.Words.{◌≡◌, ◌∙◌, ℕ, true, false, refl, ap, sym, subst, Option, Some, None, List, slice_get}
use Rattle.jiter.proofs.Words.{slice_index, slice_range, ◌<◌, ◌≤◌, Result, length, arith, nat_tests}
use Rattle.jiter.proofs.Words.{get_or_from_slice_get, IndexWithin, MovesOn, Replies, StandsAt, Scanned, taken, failed}
use Rattle.jiter.proofs.Words.{Integer, int_seen, float_seen, number_at, int_at, past_blanks, Form, string_at, seen_as}
use Rattle.jiter.proofs.Words.{literal_at, start_of, Start, ReaderState, Reply, gave, with_position, value_place}
use Rattle.jiter.proofs.Words.{if_byte, Reads, never, JiterError, peek, next, known, scalar_reply, integer_reply}
use Rattle.jiter.proofs.Words.{null_read, bool_read, number_read, int_read, number_bytes_read, string_read, str_read}
use Rattle.jiter.proofs.Words.{bytes_read}
use Rattle.jiter_scan.proofs.Runs.{run_end-here}
use Rattle.jiter_steps.proofs.Grammar.Blanks.{no_blank-after}
use Rattle.jiter_steps.specs.Blank.{is_blank}
use Rattle.jiter_steps.specs.declared.parse.Literal.TheVariants as literal
use Rattle.jiter_steps.specs.declared.parse.Start.TheVariants as start
use Rattle.jiter.specs.Reader.{StaysAt, position_after}

-- whitespace is passed once
pub past_blanks-again : (t : List ℕ) (i : ℕ) → past_blanks t (past_blanks t i) ≡ past_blanks t i
unfolding past_blanks
past_blanks-again t i = run_end-here is_blank t (past_blanks t i) _ refl (no_blank-after t i _ refl)

-- After a peek a second one gives the same, and leaves the reader there.
pub peek-again : (s : ReaderState) → peek (with_position s (position_after (peek s))) ≡ peek s
peek-again s = by (slice_get s.text (value_place s)) where
  again : peek (with_position s (value_place s)) ≡ peek s
  again = ap (λ i. if_byte i (slice_get s.text i) (λ c. gave c i)) (past_blanks-again s.text s.position)

  by : (o : Option ℕ)
      → peek (with_position s (position_after (if_byte (value_place s) o (λ c. gave c (value_place s))))) ≡ peek s
  by None = again
  by (Some c) = again

-- A next_ call after a peek replies as it would have before.
pub next-again : {A : Type 0} (s : ReaderState) (read : ℕ → Start → Reply A)
    → next (with_position s (value_place s)) read ≡ next s read
next-again s read =
    ap (λ i. if_byte i (slice_get s.text i) (λ c. read i (start_of c))) (past_blanks-again s.text s.position)

module _ (s : ReaderState) (i : ℕ) where
  scalar_reply-stays : {A : Type 0} → (x : Scanned A) → StaysAt i (scalar_reply i x)
  scalar_reply-stays (taken a e) = tt
  scalar_reply-stays (failed k j) = refl

  null_read-stays : (b : Start) → StaysAt i (null_read s i b)
  null_read-stays (start.Literal literal.Null) = scalar_reply-stays (literal_at s.text literal.Null i)
  null_read-stays b = refl

  bool_read-stays : (b : Start) → StaysAt i (bool_read s i b)
  bool_read-stays (start.Literal literal.True) =
      scalar_reply-stays (seen_as (λ u e. true) (literal_at s.text literal.True i))
  bool_read-stays (start.Literal literal.False) =
      scalar_reply-stays (seen_as (λ u e. false) (literal_at s.text literal.False i))
  bool_read-stays b = refl

  number_read-stays : (b : Start) → StaysAt i (number_read s i b)
  number_read-stays start.Number = scalar_reply-stays (number_at s.names s.text i)
  number_read-stays b = refl

  integer_reply-stays : (x : Scanned Integer) → StaysAt i (integer_reply i x)
  integer_reply-stays (taken (int_seen n) e) = tt
  integer_reply-stays (taken float_seen j) = refl
  integer_reply-stays (failed k j) = refl

  int_read-stays : (b : Start) → StaysAt i (int_read s i b)
  int_read-stays start.Number = integer_reply-stays (int_at s.text i)
  int_read-stays b = refl

  number_bytes_read-stays : (b : Start) → StaysAt i (number_bytes_read s i b)
  number_bytes_read-stays start.Number =
      scalar_reply-stays (seen_as (λ n e. slice_range s.text i e) (number_at s.names s.text i))
  number_bytes_read-stays b = refl

  string_read-stays : (f : Form) (b : Start) → StaysAt i (string_read f s i b)
  string_read-stays f start.String = scalar_reply-stays (string_at f s.text i)
  string_read-stays f b = refl

next-stays : {A : Type 0} (s : ReaderState) (read : ℕ → Start → Reply A)
    → ((b : Start) → StaysAt (value_place s) (read (value_place s) b)) → StaysAt (value_place s) (next s read)
next-stays s read stays = by (slice_get s.text (value_place s)) where
  by : (o : Option ℕ) → StaysAt (value_place s) (if_byte (value_place s) o (λ c. read (value_place s) (start_of c)))
  by None = refl
  by (Some c) = stays (start_of c)

-- A refused read of a scalar leaves the reader at the value's first byte, or at the end where only whitespace is left.
pub scalars-stay : (s : ReaderState)
    → StaysAt (value_place s) (next s (null_read s))
    × StaysAt (value_place s) (next s (bool_read s))
    × StaysAt (value_place s) (next s (number_read s))
    × StaysAt (value_place s) (next s (int_read s))
    × StaysAt (value_place s) (next s (number_bytes_read s))
    × StaysAt (value_place s) (next s (str_read s))
    × StaysAt (value_place s) (next s (bytes_read s))
scalars-stay s =
    let i = value_place s in (
      next-stays s (null_read s) (null_read-stays s i),
      next-stays s (bool_read s) (bool_read-stays s i),
      next-stays s (number_read s) (number_read-stays s i),
      next-stays s (int_read s) (int_read-stays s i),
      next-stays s (number_bytes_read s) (number_bytes_read-stays s i),
      next-stays s (str_read s) (string_read-stays s i _),
      next-stays s (bytes_read s) (string_read-stays s i _),
    )

-- After a peek that gave a byte, a known_ call replies as the next_ call would have before it.
pub known-peeked : {A : Type 0} (s : ReaderState) (read : ℕ → Start → Reply A) (c : ℕ)
    → slice_get s.text (value_place s) ≡ Some c → known (with_position s (value_place s)) read ≡ next s read
known-peeked s read c e =
    let b : slice_index s.text (value_place s) ≡ c = get_or_from_slice_get s.text (value_place s) c 0 e in
    rw (e, b) refl

-- The same of the reader that such a peek left after; what is read does not rest on where it is.
pub known-after_peek : {A : Type 0} (read : ReaderState → ℕ → Start → Reply A) (s0 s1 : ReaderState) (c : ℕ)
    → ((i : ℕ) → read (with_position s0 i) ≡ read s0) → MovesOn s0 s1 → s1.position ≡ value_place s0 → StandsAt s1 c
    → known s1 (read s1) ≡ next s0 (read s0)
known-after_peek read s0 s1 c same m place here =
    let is : s1 ≡ with_position s0 (value_place s0) = m.same ∙ ap (with_position s0) place in
    subst (λ (v : ReaderState). known v (read v) ≡ next s0 (read s0)) (sym is)
    (ap (known (with_position s0 (value_place s0))) (same (value_place s0))
    ∙ known-peeked s0 (read s0) c (subst (λ (v : ReaderState). StandsAt v c) is here))

-- Where a byte is that is not whitespace, a known_ call replies as the next_ call.
pub known-next : {A : Type 0} (s : ReaderState) (read : ℕ → Start → Reply A) (c : ℕ)
    → StandsAt s c → is_blank c ≡ false → known s read ≡ next s read
unfolding past_blanks
known-next s read c e other =
    let here : value_place s ≡ s.position = run_end-here is_blank s.text s.position (Some c) e other in
    let peeked = known-peeked s read c (subst (λ i. slice_get s.text i ≡ Some c) (sym here) e) in
    subst (λ i. known (with_position s i) read ≡ next s read) here peeked

-- where such a byte is above the space
pub known-above : {A : Type 0} (s : ReaderState) (read : ℕ → Start → Reply A) (c : ℕ)
    → StandsAt s c → 32 < c → known s read ≡ next s read
known-above s read c here above = known-next s read c here (grind (arith, nat_tests, above))

-- A read after such a peek that doesn't allocate, as one from before it.
pub read-peeked : {X A : Type 0} {view : X → A} {x : Result X JiterError} {s2 : ReaderState}
    (read : ReaderState → ℕ → Start → Reply A) (s0 s1 : ReaderState) (c : ℕ) → ((i : ℕ) → read (with_position s0 i) ≡ read s0)
    → MovesOn s0 s1 → s1.position ≡ value_place s0 → StandsAt s1 c → Reads never view (known s1 (read s1)) x s1 s2
    → Reads never view (next s0 (read s0)) x s0 s2
read-peeked {view = view} {x = x} {s2 = s2} read s0 s1 c same m place here h =
    let is : s1 ≡ with_position s0 s1.position = m.same in
    let text : s1.text ≡ s0.text = ap (λ (v : ReaderState). v.text) is in
    record {
      moves = record {
        same = h.moves.same ∙ ap (λ (v : ReaderState). with_position v s2.position) is;
        forward = omega (arith, h.moves.forward, m.forward);
        within = omega (arith, h.moves.within, ap length text);
      };
      value = subst (λ r. Replies view x s2 r) (known-after_peek read s0 s1 c same m place here) h.value;
      index = subst (λ t. IndexWithin t x) text h.index;
      memory = h.memory;
    }

low-begins : (c : ℕ) → c ≤ 32 → start_of c ≡ start.Nothing
low-begins c low = grind (arith, nat_tests, low)

-- Where a byte is that is no higher, no value begins.
pub known-low : {A : Type 0} (s : ReaderState) (read : ℕ → Start → Reply A) (c : ℕ)
    → StandsAt s c → c ≤ 32 → known s read ≡ read s.position start.Nothing
known-low s read c here low =
    ap (read s.position) (ap start_of (get_or_from_slice_get s.text s.position c 0 here) ∙ low-begins c low)
