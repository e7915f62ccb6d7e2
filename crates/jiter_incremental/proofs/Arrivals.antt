-- What is open of a document that arrives in chunks is, where the text ends, its value so far.
use Rattle.jiter_incremental.proofs.Words.{◌≡◌, ℕ, suc, ◌-◌, ◌≤◌, true, false, List, [], ◌∷◌, ◌++◌, length, refl, ap}
use Rattle.jiter_incremental.proofs.Words.{◌∙◌, arith, slice_get, Option, Some, None, slice_get_past, none-some}
use Rattle.jiter_incremental.proofs.Words.{same_Some, if-true, if-false, failed, Span, whole-is, Kind, is_forgiven}
use Rattle.jiter_incremental.proofs.Words.{eof_object, eof_value, is_active, span_then, items_frame, members_frame}
use Rattle.jiter_incremental.proofs.Words.{resume, parts_from, array_in, object_in, parts_step, Rules, done, fault}
use Rattle.jiter_incremental.proofs.Words.{prefix_answer, whole_answer, to_end, Step, container_step, stuck, step}
use Rattle.jiter_incremental.proofs.Words.{end_kind_of, colon, value_first, Text, Tree, array, object, items_of}
use Rattle.jiter_incremental.proofs.Words.{members_of, ContainerKind, if_forgiven-yes, if_forgiven-no, resume-fault}
use Rattle.jiter_incremental.proofs.Words.{past_blanks-end, Arrived, at_end, at_value, between_parts, container_of}
use Rattle.jiter_incremental.proofs.Words.{end_of, leads_on, owned, part_row, shown, value_then, OpenFrame, around}
use Rattle.jiter_incremental.proofs.Words.{begun, filled, answer_as, rules_as, PartTree, built, Awaits, Settings}
use Rattle.jiter_steps.specs.Read.{Reading, follow}
use Rattle.jiter_steps.specs.declared.parse.ContainerKind.TheVariants as shape
use Rattle.jiter_steps.proofs.Calls.Resumed.{resume-forgiven}
use Rattle.jiter_steps.proofs.Cut.Halting.{end-forgiven}
use Rattle.jiter_steps.proofs.Reading.BothShapes.{end_kind-early}
use Rattle.jiter_incremental.specs.Arrived.{value_span}
use Rattle.jiter_incremental.specs.declared.reader.Awaits.TheVariants as awaits

-- at the end of the text a step decides by that
step-past : {A : Type 0} (t : List ℕ) (row : ℕ → Option ℕ → A) (j : ℕ) → length t ≤ j → step t row j ≡ row j None
step-past t row j h =
    ap (λ m. row m (slice_get t m)) (past_blanks-end t j h) ∙ ap (row j) (slice_get_past t j h)

-- At a place where a comma and the closer are missing, each open container is closed in a partial mode;
abbrev pub Sticks : List ℕ → ℕ → Type 0
Sticks t j = (h : ContainerKind) → (k : Kind) × (step t (container_step h t) j ≡ stuck k j) × (is_forgiven k ≡ true)

-- at the end of the text too.
pub sticks-past : (t : List ℕ) (j : ℕ) → length t ≤ j → Sticks t j
sticks-past t j past = λ h.
    (end_kind_of h, step-past t (container_step h t) j past, end-forgiven _ (end_kind-early h))

module _ (p : Settings) (t : List ℕ) (on : is_active p.mode ≡ true) (j : ℕ) (sticks : Sticks t j) where
  abbrev mild : Rules Text Tree
  mild = rules_as owned p

  forgiven : (k : Kind) → is_forgiven k ≡ true → mild.forgives k ≡ true
  forgiven k h = rw on h

  -- a container ends there
  pub stuck-closes : (next : ℕ → Reading Tree) (close : ℕ → Tree) (k : Kind) (s : Step) → s ≡ stuck k j
      → is_forgiven k ≡ true
      → follow mild next close s ≡ done (close j) j
  stuck-closes next close k s is h = ap (follow mild next close) is ∙ if_forgiven-yes mild t close k j j (forgiven k h)

  -- and so do all round it
  pub all-close : (fs : List OpenFrame) (x : Tree) → resume mild t fs (done x j) ≡ done (filled fs x) j
  all-close [] x = refl
  all-close (items_frame xs ∷ fs) x =
      let c = array_in mild t (length fs) in
      let s = sticks shape.Array in
      ap (resume mild t fs)
      (stuck-closes (parts_from mild t c (xs ++ x ∷ [])) (λ e. c.build e (xs ++ x ∷ [])) s.0 (step t c.next j) s.1 s.2)
      ∙ all-close fs (around (items_frame xs) x)
  all-close (members_frame ms k ∷ fs) x =
      let c = object_in mild t (length fs) in
      let s = sticks shape.Object in
      ap (resume mild t fs)
      (stuck-closes (parts_from mild t c (ms ++ (k, x) ∷ [])) (λ e. c.build e (ms ++ (k, x) ∷ [])) s.0
      (step t c.next j) s.1 s.2)
      ∙ all-close fs (around (members_frame ms k) x)

  -- an error of the value that is awaited
  pub fault-closes : (f : OpenFrame) (fs : List OpenFrame) (k : Kind) (i : ℕ) → is_forgiven k ≡ true
      → resume mild t (f ∷ fs) (fault k i j) ≡ done (filled fs (begun f)) j
  fault-closes (items_frame xs) fs k i h =
      resume-forgiven mild t (items_frame xs) fs k i j (forgiven k h) ∙ all-close fs (array (items_of xs))
  fault-closes (members_frame ms key) fs k i h =
      resume-forgiven mild t (members_frame ms key) fs k i j (forgiven k h) ∙ all-close fs (object (members_of ms))

module _ (p : Settings) (t : List ℕ) (on : is_active p.mode ≡ true) (j : ℕ) (past : length t ≤ j) where
  abbrev r : Rules Text Tree
  r = rules_as owned p

  ends : Sticks t j
  ends = sticks-past t j past

  -- what is awaited there is an error of the end
  record Fails (x : Reading Tree) : Type 0 where
    kind : Kind
    is : x ≡ fault kind j j
    ok : is_forgiven kind ≡ true

  value-fails : (a : Awaits) (depth : ℕ) → Fails (value_then r t depth (value_span r t a j))
  value-fails awaits.Colon depth = record {
    kind = eof_object;
    is = ap (λ x. value_then r t depth (span_then x (step t value_first))) (step-past t colon j past);
    ok = refl;
  }
  value-fails a depth = record {
    kind = eof_value;
    is = ap (value_then r t depth) (step-past t value_first j past);
    ok = refl;
  }

  -- and where another part is awaited, too
  part-stuck : (a : Awaits) (h : ContainerKind)
      → (k : Kind) × (step t (part_row r t a h) j ≡ stuck k j) × (is_forgiven k ≡ true)
  part-stuck awaits.Next h = (eof_value, step-past t (part_row r t awaits.Next h) j past, refl)
  part-stuck awaits.First h =
      (end_kind_of h, step-past t (part_row r t awaits.First h) j past, end-forgiven _ (end_kind-early h))
  part-stuck a h = (end_kind_of h, step-past t (part_row r t a h) j past, end-forgiven _ (end_kind-early h))

  built-closes : (a : Awaits) (h : ContainerKind) (xs : List (PartTree h)) (fs : List OpenFrame)
      → leads_on r t (between_parts a h xs fs) j ≡ done (filled fs (built h xs)) j
  built-closes a shape.Array xs fs =
      let c = array_in r t (length fs) in
      let s = part-stuck a shape.Array in
      ap (resume r t fs) (stuck-closes p t on j ends (parts_from r t c xs) (λ e. c.build e xs) s.0 _ s.1 s.2)
      ∙ all-close p t on j ends fs (array (items_of xs))
  built-closes a shape.Object xs fs =
      let c = object_in r t (length fs) in
      let s = part-stuck a shape.Object in
      ap (resume r t fs) (stuck-closes p t on j ends (parts_from r t c xs) (λ e. c.build e xs) s.0 _ s.1 s.2)
      ∙ all-close p t on j ends fs (object (members_of xs))

  -- All that is open ends there, and the value so far is what is read.
  shown-read : (s : Arrived) (v : Tree) → shown s ≡ Some v → (e : ℕ) × (leads_on r t s j ≡ done v e)
  shown-read (at_value a []) v h = absurd (none-some v h)
  shown-read (at_value a (f ∷ fs)) v h =
      let f' = value-fails a (suc (length fs)) in
      (j, ap (resume r t (f ∷ fs)) f'.is ∙ fault-closes p t on j ends f fs f'.kind j f'.ok ∙ ap (λ x. done x j) (same_Some _ _ h))
  shown-read (between_parts a k xs fs) v h = (j, built-closes a k xs fs ∙ ap (λ x. done x j) (same_Some _ _ h))
  shown-read (at_end w n) v h = (j - n, ap (λ x. done x (j - n)) (same_Some _ _ h))

-- What a prefix leads to is, where the text ends in a partial mode, the value so far.
pub led-answers : (p : Settings) (t : List ℕ) (s : Arrived) (v : Tree) → is_active p.mode ≡ true
    → prefix_answer (rules_as owned p) t ≡ leads_on (rules_as owned p) t s (length t) → shown s ≡ Some v
    → (e : ℕ) × (answer_as owned p t ≡ done v e)
led-answers p t s v on led h =
    let end = shown-read p t on (length t) (omega arith) s v h in
    let r = rules_as owned p in
    (end.0, if-true (is_active p.mode) (prefix_answer r t) (whole_answer r t) on ∙ led ∙ end.1)

-- The same with partial reading off: the end is an error there, unless the value is whole.
module _ (p : Settings) (t : List ℕ) (off : is_active p.mode ≡ false) where
  abbrev strict : Rules Text Tree
  strict = rules_as owned p

  abbrev end : ℕ
  end = length t

  not-forgiven : (k : Kind) → strict.forgives k ≡ false
  not-forgiven k = rw off refl

  row-past : {A : Type 0} (row : ℕ → Option ℕ → A) → step t row end ≡ row end None
  row-past row = step-past t row end (omega arith)

  value-ends : (fs : List OpenFrame) (k : Kind) (x : Span) → x ≡ failed k end
      → resume strict t fs (value_then strict t (length fs) x) ≡ fault k end end
  value-ends fs k x is =
      ap (λ y. resume strict t fs (value_then strict t (length fs) y)) is
      ∙ resume-fault strict t fs k end end (not-forgiven k)

  parts-end : (a : Awaits) (h : ContainerKind) (xs : List (PartTree h)) (fs : List OpenFrame) (k : Kind)
      → part_row strict t a h end None ≡ stuck k end
      → leads_on strict t (between_parts a h xs fs) end ≡ fault k end end
  parts-end a h xs fs k is =
      let c = container_of strict t h (length fs) in
      ap (λ u. resume strict t fs (parts_step strict t c xs u)) (row-past (part_row strict t a h) ∙ is)
      ∙ ap (resume strict t fs) (if_forgiven-no strict t (λ e. c.build e xs) k end end (not-forgiven k))
      ∙ resume-fault strict t fs k end end (not-forgiven k)

  leads-end : (s : Arrived) (k : Kind) → end_of s ≡ Some k → leads_on strict t s end ≡ fault k end end
  leads-end (at_value awaits.Colon fs) k h =
      value-ends fs k _
      (ap (λ (x : Span). span_then x (step t value_first)) (row-past colon)
      ∙ ap (λ k. failed k end) (same_Some _ _ h))
  leads-end (at_value a fs) k h =
      value-ends fs k _ (row-past value_first ∙ ap (λ k. failed k end) (same_Some _ _ h))
  leads-end (between_parts awaits.Next shape xs fs) k h =
      parts-end awaits.Next shape xs fs k (ap (λ k. stuck k end) (same_Some _ _ h))
  leads-end (between_parts awaits.First shape xs fs) k h =
      parts-end awaits.First shape xs fs k (ap (λ k. stuck k end) (same_Some _ _ h))
  leads-end (between_parts a shape xs fs) k h =
      parts-end a shape xs fs k (ap (λ k. stuck k end) (same_Some _ _ h))
  leads-end (at_end v n) k h = absurd (none-some k h)

  -- an answer with partial reading off is the prefix's, to the end
  pub off-answers : answer_as owned p t ≡ to_end t (prefix_answer strict t)
  off-answers = if-false (is_active p.mode) (prefix_answer strict t) (whole_answer strict t) off ∙ whole-is strict t

  pub led-end : (s : Arrived) (k : Kind) → prefix_answer strict t ≡ leads_on strict t s end → end_of s ≡ Some k
      → answer_as owned p t ≡ fault k end end
  led-end s k led h = off-answers ∙ ap (to_end t) (led ∙ leads-end s k h)
