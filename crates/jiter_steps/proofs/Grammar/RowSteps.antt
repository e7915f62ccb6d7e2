-- Steps between the parts of a container, by the grammar.
use Rattle.jiter_steps.proofs.Words.{◌≡◌, ℕ, ◌+◌, ◌<◌, ◌≤◌, ◌==◌, true, false, cond, List, length, IfSome, refl, ap}
use Rattle.jiter_steps.proofs.Words.{◌∙◌, arith, slice_get, Option, Some, None, slice_get_within, eqb-true, eq-eqb}
use Rattle.jiter_steps.proofs.Words.{taken, failed, Span, span_then, if_case, is_blank, past_blanks, IsBlank}
use Rattle.jiter_steps.proofs.Words.{StandsAfter, Step, more, closed, stuck, step, closer_of, begins_part}
use Rattle.jiter_steps.proofs.Words.{container_first, container_comma, container_step, colon, value_first, object_colon}
use Rattle.jiter_steps.proofs.Words.{ContainerKind}
use Rattle.jiter_steps.specs.declared.parse.ContainerKind.TheVariants as shape
use Rattle.jiter_steps.proofs.Reading.Bounds.{either}
use Rattle.jiter_steps.proofs.Reading.BothShapes.{closer-no_blank, closer-no_comma, closer-begins_no_part}
use Rattle.jiter_steps.proofs.Grammar.Blanks.{blank-passed, passed-blank, no_blank-after}

-- what a part of a container may begin with: a byte that is not whitespace
pub record ByteAt (t : List ℕ) (j : ℕ) : Type 0 where
  pub byte : ℕ
  pub here : slice_get t j ≡ Some byte
  pub no_blank : is_blank byte ≡ false

-- a part of an array or an object: one that begins it
pub record PartAt (b : ContainerKind) (t : List ℕ) (j : ℕ) : Type 0 where
  pub byte : ℕ
  pub here : slice_get t j ≡ Some byte
  pub no_blank : is_blank byte ≡ false
  pub begins : begins_part b byte ≡ true

-- a key: its quote
pub quote-begins : (t : List ℕ) (j : ℕ) → slice_get t j ≡ Some 34 → PartAt shape.Object t j
quote-begins t j h = record { byte = 34; here = h; no_blank = refl; begins = refl }

pub begins-quote : (t : List ℕ) (j : ℕ) → PartAt shape.Object t j → slice_get t j ≡ Some 34
begins-quote t j h = h.here ∙ ap Some (eqb-true h.byte 34 h.begins)

-- a part may begin at j, after whitespace from i on
pub record PartAfter (t : List ℕ) (Begins : ℕ → Type 0) (i j : ℕ) : Type 0 where
  pub blanks : IsBlank t i j
  pub begins : Begins j

-- a comma or a colon, and what is after it
abbrev pub After : List ℕ → ℕ → ℕ → (ℕ → ℕ → Type 0) → ℕ → Type 0
After t i sign Then j = (c : ℕ) × StandsAfter t i sign c × Then c j

-- where a step goes on; where it closes, by the byte closer
abbrev pub StepIs : List ℕ → ℕ → ℕ → (ℕ → Type 0) → Step → Type 0
StepIs t i closer More (more j) = More j
StepIs t i closer More (closed e) = StandsAfter t i closer e
StepIs t i closer More (stuck k j) = Unit {0}

-- the place that a span leads to
abbrev pub SpanIs : (ℕ → Type 0) → Span → Type 0
SpanIs More (taken u j) = More j
SpanIs More (failed k j) = Unit {0}

-- The steps of a container whose parts begin so, and which ends with the byte closer: what they find is there, and
-- what is there they find.
pub record Delimits (t : List ℕ) (first next : ℕ → Option ℕ → Step) (closer : ℕ) (Begins : ℕ → Type 0) : Type 0 where
  pub within : (j : ℕ) → Begins j → j < length t
  pub first-is : (i : ℕ) → i ≤ length t → StepIs t i closer (PartAfter t Begins i) (step t first i)
  pub next-is : (i : ℕ) → i ≤ length t → StepIs t i closer (After t i 44 (PartAfter t Begins)) (step t next i)
  pub first-closed : (i e : ℕ) → StandsAfter t i closer e → step t first i ≡ closed e
  pub first-more : (i j : ℕ) → IsBlank t i j → Begins j → step t first i ≡ more j
  pub next-closed : (i e : ℕ) → StandsAfter t i closer e → step t next i ≡ closed e
  pub next-more : (i m j : ℕ) → StandsAfter t i 44 m → IsBlank t m j → Begins j → step t next i ≡ more j

-- what holds of both arms of a test for a byte
pub tested : {A : Type 0} (P : A → Type 0) (c d : ℕ) (x y : A) → (c ≡ d → P x) → ((c == d) ≡ false → P y)
    → P (cond (c == d) x y)
tested P c d x y p q = if_case P (c == d) x y (λ e. p (eqb-true c d e)) q

module _ (t : List ℕ) where
  -- the byte after whitespace, or none
  pub record Stops (i j : ℕ) (o : Option ℕ) : Type 0 where
    pub blanks : IsBlank t i j
    pub here : slice_get t j ≡ o
    pub no_blank : IfSome o (λ c. is_blank c ≡ false)

  pub row-is : {A : Type 0} (P : A → Type 0) (row : ℕ → Option ℕ → A) (i : ℕ)
      → ((j : ℕ) (o : Option ℕ) → Stops i j o → P (row j o))
      → i ≤ length t → P (step t row i)
  row-is P row i all h =
      all (past_blanks t i) _
      (record { blanks = passed-blank t i h; here = refl; no_blank = no_blank-after t i _ refl })

  pub after : (i j c d : ℕ) → Stops i j (Some c) → c ≡ d → StandsAfter t i d (j + 1)
  after i j c d s e = record { at = j; blanks = s.blanks; here = s.here ∙ ap Some e; ends = refl }

  -- a row at what is after whitespace
  pub row-at : {A : Type 0} (row : ℕ → Option ℕ → A) (i j c : ℕ) → IsBlank t i j → slice_get t j ≡ Some c
      → is_blank c ≡ false
      → step t row i ≡ row j (Some c)
  row-at row i j c b e other = ap (λ k. row k (slice_get t k)) (blank-passed t i j c b e other) ∙ ap (row j) e

  -- The steps of arrays and of objects.
  module _ (b : ContainerKind) where
    abbrev Part : ℕ → ℕ → Type 0
    Part i j = PartAfter t (PartAt b t) i j

    part-after : (i j c : ℕ) → Stops i j (Some c) → begins_part b c ≡ true → Part i j
    part-after i j c s begins =
        let at : PartAt b t j = record { byte = c; here = s.here; no_blank = s.no_blank; begins = begins } in
        record { blanks = s.blanks; begins = at }

    -- what they find
    first-is : (i j : ℕ) (o : Option ℕ) → Stops i j o → StepIs t i (closer_of b) (Part i) (container_first b j o)
    first-is i j None s = tt
    first-is i j (Some c) s =
        let Is = StepIs t i (closer_of b) (Part i) in
        if_case Is (begins_part b c) _ _ (part-after i j c s)
        (λ e. tested Is c (closer_of b) _ _ (after i j c (closer_of b) s) (λ e. tt))

    -- after a part, where a comma leads on
    abbrev Next : ℕ → Step → Type 0
    Next i s = StepIs t i (closer_of b) (After t i 44 (PartAfter t (PartAt b t))) s

    comma-is : (i m : ℕ) → StandsAfter t i 44 m → (j : ℕ) (o : Option ℕ) → Stops m j o → Next i (container_comma b j o)
    comma-is i m h j None s = tt
    comma-is i m h j (Some c) s =
        if_case (Next i) (begins_part b c) _ _ (λ begins. (m, h, part-after m j c s begins))
        (λ e. either (Next i) (c == closer_of b) _ _ tt tt)

    step-is : (i j : ℕ) (o : Option ℕ) → Stops i j o → Next i (container_step b t j o)
    step-is i j None s = tt
    step-is i j (Some c) s =
        let inside = slice_get_within t j c s.here in
        tested (Next i) c (closer_of b) _ _ (after i j c (closer_of b) s)
        (λ e. tested (Next i) c 44 _ _ (λ e. row-is (Next i) (container_comma b) (j + 1)
        (comma-is i (j + 1) (after i j c 44 s e)) (omega arith)) (λ e. tt))

    -- they find what is there
    closed-at : (row : ℕ → Option ℕ → Step) (i e : ℕ) (h : StandsAfter t i (closer_of b) e)
        → step t row i ≡ row h.at (Some (closer_of b))
    closed-at row i e h = row-at row i h.at (closer_of b) h.blanks h.here (closer-no_blank b)

    is_closer : (closer_of b == closer_of b) ≡ true
    is_closer = eq-eqb (closer_of b) (closer_of b) refl

    pub delimits : Delimits t (container_first b) (container_step b t) (closer_of b) (PartAt b t)
    delimits = record {
      within = λ j h. slice_get_within t j h.byte h.here;
      first-is = λ i. row-is (StepIs t i (closer_of b) (Part i)) (container_first b) i (first-is i);
      next-is = λ i. row-is (Next i) (container_step b t) i (step-is i);
      first-closed = λ i e h.
          rw (closed-at (container_first b) i e h, closer-begins_no_part b, is_closer, h.ends);
      first-more = λ i j blanks h. rw (row-at (container_first b) i j h.byte blanks h.here h.no_blank, h.begins);
      next-closed = λ i e h. rw (closed-at (container_step b t) i e h, is_closer, h.ends);
      next-more = λ i m j h blanks x.
          rw (
            row-at (container_step b t) i h.at 44 h.blanks h.here refl,
            closer-no_comma b,
            ← h.ends,
            row-at (container_comma b) m j x.byte blanks x.here x.no_blank,
            x.begins,
          );
    }

  -- after a key: its colon, and the byte where its value may begin
  abbrev ValueAfter : ℕ → Span → Type 0
  ValueAfter i x = SpanIs (After t i 58 (PartAfter t (ByteAt t))) x

  value-at : (i m : ℕ) → StandsAfter t i 58 m → (j : ℕ) (o : Option ℕ) → Stops m j o → ValueAfter i (value_first j o)
  value-at i m h j None s = tt
  value-at i m h j (Some c) s =
      (m, h, record { blanks = s.blanks; begins = record { byte = c; here = s.here; no_blank = s.no_blank } })

  -- the colon after whitespace, and then its value
  abbrev ColonLeads : ℕ → Span → Type 0
  ColonLeads i x = ValueAfter i (span_then x (step t value_first))

  colon-at : (i j : ℕ) (o : Option ℕ) → Stops i j o → ColonLeads i (colon j o)
  colon-at i j None s = tt
  colon-at i j (Some c) s =
      let inside = slice_get_within t j c s.here in
      tested (ColonLeads i) c 58 _ _
      (λ e. row-is (ValueAfter i) value_first (j + 1) (value-at i (j + 1) (after i j c 58 s e)) (omega arith))
      (λ e. tt)

  pub object_colon-is : (i : ℕ) → i ≤ length t → SpanIs (After t i 58 (PartAfter t (ByteAt t))) (object_colon t i)
  object_colon-is i = row-is (ColonLeads i) colon i (colon-at i)

  pub object_colon-taken : (i m j : ℕ) → StandsAfter t i 58 m → IsBlank t m j → ByteAt t j
      → object_colon t i ≡ taken tt j
  object_colon-taken i m j h b x =
      rw (
        row-at colon i h.at 58 h.blanks h.here refl,
        ← h.ends,
        row-at value_first m j x.byte b x.here x.no_blank,
      )
