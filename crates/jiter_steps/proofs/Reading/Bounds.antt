-- Where steps and readings end: within the text, and an error of the input's end at its length alone. One walk over the
-- rows.
use Rattle.jiter_steps.proofs.Words.{◌≡◌, ◌≢◌, ℕ, ◌+◌, ◌<◌, ◌≤◌, ◌==◌, Bool, true, false, cond, length, List, refl, sym}
use Rattle.jiter_steps.proofs.Words.{◌∙◌, arith, slice_get, Option, Some, None, false≢true, slice_get_within, Kind}
use Rattle.jiter_steps.proofs.Words.{is_end_kind, out_of_memory, eof_object, eof_value, taken, failed, Span}
use Rattle.jiter_steps.proofs.Words.{span_then, FaultAt, get-none, past_blanks, Step, more, closed, stuck, step}
use Rattle.jiter_steps.proofs.Words.{closer_of, begins_part, end_kind_of, comma_kind_of, container_first}
use Rattle.jiter_steps.proofs.Words.{container_comma, container_step, colon, value_first, object_colon, ContainerKind}
use Rattle.jiter_steps.proofs.Words.{Reading, done, fault, expected_colon, key_must_be_a_string, trailing_comma}
use Rattle.jiter_steps.proofs.Reading.BothShapes.{end_kind-bytes, comma_kind-late, comma_kind-bytes}
use Rattle.jiter_steps.proofs.Grammar.Blanks.{past_blanks-bound, past_blanks-after}

-- a step from i leads on, and not past the length
abbrev pub Ahead : List ℕ → ℕ → Step → Type 0
Ahead t i (more j) = (i ≤ j) × (j < length t)
Ahead t i (closed e) = (i < e) × (e ≤ length t)
Ahead t i (stuck k j) = (i ≤ j) × FaultAt t k j

-- so does what may be after a key: n bytes or more, and where n is 0 a byte follows
abbrev pub SpanAhead : List ℕ → ℕ → ℕ → Span → Type 0
SpanAhead t i n (taken u j) = (i + n ≤ j) × (j + 1 ≤ length t + n)
SpanAhead t i n (failed k j) = (i ≤ j) × FaultAt t k j

-- a reading from i ends after it, or stops at or after it, and not past the length
abbrev pub Within : {A : Type 0} → List ℕ → ℕ → Reading A → Type 0
Within t i (done a e) = (i < e) × (e ≤ length t)
Within t i (fault k x stop) = (i ≤ stop) × (stop ≤ length t) × FaultAt t k x

-- no byte at the length, and one before it
abbrev Reaches : List ℕ → ℕ → Option ℕ → Type 0
Reaches t j None = j ≡ length t
Reaches t j (Some c) = j < length t

-- what holds of both arms of a choice
pub either : {A : Type 0} (P : A → Type 0) (b : Bool) (x y : A) → P x → P y → P (cond b x y)
either P true x y p q = p
either P false x y p q = q

-- what holds of both arms of two choices by one test
pub both : {A B : Type 0} (R : A → B → Type 0) (b : Bool) (x y : A) (x' y' : B) → R x x' → R y y'
    → R (cond b x y) (cond b x' y')
both R true x y x' y' p q = p
both R false x y x' y' p q = q

reaches : (t : List ℕ) (j : ℕ) → j ≤ length t → (o : Option ℕ) → slice_get t j ≡ o → Reaches t j o
reaches t j le None e = omega (arith, get-none t j e)
reaches t j le (Some c) e = slice_get_within t j c e

module _ (t : List ℕ) where
  -- an error at the end of input, and one at a byte
  pub fault-end : (k : Kind) (j : ℕ) → k ≢ out_of_memory → j ≡ length t → FaultAt t k j
  fault-end k j m e = record { within = omega arith; ends = λ h. e; bytes = m }

  pub fault-byte : (k : Kind) (j : ℕ) → k ≢ out_of_memory → is_end_kind k ≡ false → j ≤ length t → FaultAt t k j
  fault-byte k j m e le = record { within = le; ends = λ h. absurd (false≢true (sym e ∙ h)); bytes = m }

  abbrev RowAhead : (ℕ → Option ℕ → Step) → Type 0
  RowAhead row = (i j : ℕ) (o : Option ℕ) → i ≤ j → Reaches t j o → Ahead t i (row j o)

  past-reaches : (i : ℕ) → i ≤ length t → Reaches t (past_blanks t i) (slice_get t (past_blanks t i))
  past-reaches i h = reaches t (past_blanks t i) (past_blanks-bound t i h) _ refl

  step-ahead : (row : ℕ → Option ℕ → Step) → RowAhead row → (i : ℕ) → i ≤ length t → Ahead t i (step t row i)
  step-ahead row all i h = all i (past_blanks t i) _ (past_blanks-after t i) (past-reaches i h)

  -- a step from a later place
  pub ahead-later : (i j : ℕ) (s : Step) → i ≤ j → Ahead t j s → Ahead t i s
  ahead-later i j (more k) le h = (omega (arith, h.0), h.1)
  ahead-later i j (closed k) le h = (omega (arith, h.0), h.1)
  ahead-later i j (stuck x k) le h = (omega (arith, h.0), h.1)

  -- Between the parts of a container.
  module _ (b : ContainerKind) where
    end-fault : (j : ℕ) → j ≡ length t → FaultAt t (end_kind_of b) j
    end-fault j h = fault-end (end_kind_of b) j (end_kind-bytes b) h

    key-fault : (i j : ℕ) → i ≤ j → j < length t → Ahead t i (stuck key_must_be_a_string j)
    key-fault i j a h = (a, fault-byte key_must_be_a_string j (λ e. cc) refl (omega arith))

    -- after the opening bracket
    first-here : RowAhead (container_first b)
    first-here i j None a h = (a, end-fault j h)
    first-here i j (Some c) a h =
        either (Ahead t i) (begins_part b c) _ _ (a, h)
        (either (Ahead t i) (c == closer_of b) _ _ (omega arith, omega arith) (key-fault i j a h))

    pub container_first-ahead : (i : ℕ) → i ≤ length t → Ahead t i (step t (container_first b) i)
    container_first-ahead = step-ahead (container_first b) first-here

    -- after a comma
    comma-here : RowAhead (container_comma b)
    comma-here i j None a h = (a, fault-end eof_value j (λ e. cc) h)
    comma-here i j (Some c) a h =
        either (Ahead t i) (begins_part b c) _ _ (a, h)
        (either (Ahead t i) (c == closer_of b) _ _ (a, fault-byte trailing_comma j (λ e. cc) refl (omega arith))
        (key-fault i j a h))

    comma-ahead : (i : ℕ) → i ≤ length t → Ahead t i (step t (container_comma b) i)
    comma-ahead = step-ahead (container_comma b) comma-here

    -- after a part
    step-here : RowAhead (container_step b t)
    step-here i j None a h = (a, end-fault j h)
    step-here i j (Some c) a h =
        let after = ahead-later i (j + 1) _ (omega arith) (comma-ahead (j + 1) (omega arith)) in
        let fault = fault-byte (comma_kind_of b) j (comma_kind-bytes b) (comma_kind-late b) (omega arith) in
        either (Ahead t i) (c == closer_of b) _ _ (omega arith, omega arith)
        (either (Ahead t i) (c == 44) _ _ after (a, fault))

    pub container_step-ahead : (i : ℕ) → i ≤ length t → Ahead t i (step t (container_step b t) i)
    container_step-ahead = step-ahead (container_step b t) step-here

  -- after a key: its colon
  colon-here : (i j : ℕ) (o : Option ℕ) → i ≤ j → Reaches t j o → SpanAhead t i 1 (colon j o)
  colon-here i j None a h = (a, fault-end eof_object j (λ e. cc) h)
  colon-here i j (Some c) a h =
      either (SpanAhead t i 1) (c == 58) _ _ (omega arith, omega arith)
      (a, fault-byte expected_colon j (λ e. cc) refl (omega arith))

  pub colon-ahead : (i : ℕ) → i ≤ length t → SpanAhead t i 1 (step t colon i)
  colon-ahead i h = colon-here i (past_blanks t i) _ (past_blanks-after t i) (past-reaches i h)

  -- where a value begins
  value-here : (i j : ℕ) (o : Option ℕ) → i ≤ j → Reaches t j o → SpanAhead t i 0 (value_first j o)
  value-here i j None a h = (a, fault-end eof_value j (λ e. cc) h)
  value-here i j (Some c) a h = (omega arith, omega arith)

  -- after a key: its colon, and where its value begins
  later : (i j n : ℕ) (x : Span) → i + n ≤ j → SpanAhead t j 0 x → SpanAhead t i 0 x
  later i j n (taken u k) le w = (omega (arith, w.0), w.1)
  later i j n (failed k x) le w = (omega (arith, w.0), w.1)

  after-colon : (i : ℕ) (x : Span) → SpanAhead t i 1 x → SpanAhead t i 0 (span_then x (step t value_first))
  after-colon i (taken u j) w =
      later i j 1 _ w.0 (value-here j (past_blanks t j) _ (past_blanks-after t j) (past-reaches j (omega (arith, w.1))))
  after-colon i (failed k j) w = w

  pub object_colon-ahead : (i : ℕ) → i ≤ length t → SpanAhead t i 0 (object_colon t i)
  object_colon-ahead i h = after-colon i (step t colon i) (colon-ahead i h)
