-- The equations of reading.
use Rattle.jiter_steps.proofs.Words.{◌≡◌, ℕ, zero, suc, ◌+◌, ◌<◌, ◌≤◌, length, List, [], ◌∷◌, ◌++◌, refl, sym, ap, ◌∙◌}
use Rattle.jiter_steps.proofs.Words.{◌-◌, arith, slice_index, Option, Some, None, none-some, Kind, recursion_limit}
use Rattle.jiter_steps.proofs.Words.{Scanned, taken, failed, Span, ScalarWithin, FaultAt, start_of, Step, more}
use Rattle.jiter_steps.proofs.Words.{closed, stuck, step, object_colon, Reading, done, fault, Rules, Container}
use Rattle.jiter_steps.proofs.Words.{scalar_at, with_key, after_colon, after_key, if_forgiven, follow, after_part}
use Rattle.jiter_steps.proofs.Words.{parts_at, container_at, array_of, object_of, unless_refused, value_with, inside_at}
use Rattle.jiter_steps.proofs.Words.{value_at, Literal, Start, expected_value}
use Rattle.jiter_steps.specs.declared.parse.ContainerKind.TheVariants as shape
use Rattle.jiter_steps.specs.declared.parse.Start.TheVariants as start
use Rattle.jiter_steps.proofs.Reading.Bounds.{Ahead, SpanAhead, Within, either, fault-byte, container_first-ahead}
use Rattle.jiter_steps.proofs.Reading.Bounds.{container_step-ahead, object_colon-ahead}

-- scalars and keys end after their begin and within the text
pub record Advances {K A : Type 0} (r : Rules K A) (t : List ℕ) : Type 0 where
  pub literal : (l : Literal) (i : ℕ) → i < length t → ScalarWithin t i (r.literal t l i)
  pub number : (i : ℕ) → i < length t → ScalarWithin t i (r.number t i)
  pub text : (i : ℕ) → i < length t → ScalarWithin t i (r.text t i)
  pub key : (i : ℕ) → i < length t → ScalarWithin t i (r.key t i)
  pub refuses : (members : List (K × A)) (i j : ℕ) (k : Kind) → i < length t → r.refuses members t i ≡ Some (k, j)
      → (i < j) × FaultAt t k j

abbrev pub AllWithin : {A : Type 0} → List ℕ → (ℕ → Reading A) → Type 0
AllWithin t inner = (i : ℕ) → i < length t → Within t i (inner i)

-- the steps of a container lead on, and each part ends after its begin
pub record Goes {P A : Type 0} (c : Container P A) (t : List ℕ) : Type 0 where
  pub first : (i : ℕ) → i ≤ length t → Ahead t i (step t c.first i)
  pub next : (i : ℕ) → i ≤ length t → Ahead t i (step t c.next i)
  pub part : (i : ℕ) → i < length t → Within t i (c.part i)
  pub refuses : (parts : List P) (i j : ℕ) (k : Kind) → i < length t → c.refuses parts i ≡ Some (k, j)
      → (i < j) × FaultAt t k j

-- what is at i after these parts: a part, unless it is refused
abbrev pub part_after : {P A : Type 0} → Container P A → List P → ℕ → Reading P
part_after c parts i = unless_refused (c.refuses parts i) (c.part i)

pub part-free : {P A : Type 0} (c : Container P A) (parts : List P) (i : ℕ) → c.refuses parts i ≡ None
    → part_after c parts i ≡ c.part i
part-free c parts i e = ap (λ o. unless_refused o (c.part i)) e

module _ {K A : Type 0} (r : Rules K A) (t : List ℕ) where
  -- Where readings end.
  if_forgiven-within : (b : ℕ) (close : ℕ → A) (k : Kind) (x stop : ℕ) → b < stop → stop ≤ length t → FaultAt t k x
      → Within t b (if_forgiven r close k x stop)
  if_forgiven-within b close k x stop lt le at =
      either (Within t b) (r.forgives k) _ _ (lt, le) (omega arith, le, at)

  follow-within : (b e : ℕ) (next : ℕ → Reading A) (close : ℕ → A) (s : Step) → b < e → Ahead t e s
      → ((j : ℕ) → e ≤ j → j < length t → Within t b (next j)) → Within t b (follow r next close s)
  follow-within b e next close (more j) lt h go = go j h.0 h.1
  follow-within b e next close (closed c) lt h go = (omega arith, h.1)
  follow-within b e next close (stuck k j) lt h go =
      if_forgiven-within b close k j j (omega (arith, h.0)) h.1.within h.1

  follow-same : (close : ℕ → A) (f g : ℕ → Reading A) (e : ℕ) (s : Step) → Ahead t e s
      → ((j : ℕ) → e ≤ j → j < length t → f j ≡ g j) → follow r f close s ≡ follow r g close s
  follow-same close f g e (more j) h same = same j h.0 h.1
  follow-same close f g e (closed c) h same = refl
  follow-same close f g e (stuck k j) h same = refl

  module _ {P : Type 0} (c : Container P A) (goes : Goes c t) where
    after_part-within : (b i : ℕ) (parts : List P) (next : List P → ℕ → Reading A) (x : Reading P) → b < i
        → Within t i x
        → ((ps : List P) (j : ℕ) → i < j → j < length t → Within t b (next ps j))
        → Within t b (after_part r c t next parts x)
    after_part-within b i parts next (done p e) lt h go =
        follow-within b e _ (λ e. c.build e (parts ++ p ∷ [])) (step t c.next e) (omega arith) (goes.next e h.1)
        (λ j le lj. go (parts ++ p ∷ []) j (omega arith) lj)
    after_part-within b i parts next (fault k x stop) lt h go =
        if_forgiven-within b (λ e. c.build e parts) k x stop (omega (arith, h.0)) h.1 h.2

    pub part-within : (parts : List P) (i : ℕ) → i < length t → Within t i (part_after c parts i)
    part-within parts i h = by (c.refuses parts i) refl where
      by : (o : Option (Kind × ℕ)) → c.refuses parts i ≡ o → Within t i (unless_refused o (c.part i))
      by None e = goes.part i h
      by (Some f) e = let at = goes.refuses parts i f.1 f.0 h e in (omega (arith, at.0), at.1.within, at.1)

    pub parts_at-within : (b n : ℕ) (parts : List P) (i : ℕ) → b < i → i < length t → length t ≤ i + n
        → Within t b (parts_at r c t n parts i)
    unfolding parts_at
    parts_at-within b zero parts i lt h p = absurd (omega arith)
    parts_at-within b (suc n) parts i lt h p =
        after_part-within b i parts _ (part_after c parts i) lt (part-within parts i h)
        (λ ps j lj h'. parts_at-within b n ps j (omega arith) h' (omega arith))

    pub container_at-within : (i : ℕ) → i < length t → Within t i (container_at r c t i)
    container_at-within i h =
        follow-within i (i + 1) _ (λ e. c.build e []) (step t c.first (i + 1)) (omega arith)
        (goes.first (i + 1) (omega arith)) (λ j le lj. parts_at-within i (length t) [] j (omega arith) lj (omega arith))

    -- The number of turns left serves as well as any that is enough.
    after_part-same : (f g : List P → ℕ → Reading A) (i : ℕ) (parts : List P) (x : Reading P) → Within t i x
        → ((ps : List P) (j : ℕ) → i < j → j < length t → f ps j ≡ g ps j)
        → after_part r c t f parts x ≡ after_part r c t g parts x
    after_part-same f g i parts (done p e) h same =
        follow-same (λ e. c.build e (parts ++ p ∷ [])) _ _ e (step t c.next e) (goes.next e h.1)
        (λ j le lj. same (parts ++ p ∷ []) j (omega arith) lj)
    after_part-same f g i parts (fault k x stop) h same = refl

    parts_at-turns : (n m : ℕ) (parts : List P) (i : ℕ) → i < length t → length t ≤ i + n → length t ≤ i + m
        → parts_at r c t n parts i ≡ parts_at r c t m parts i
    unfolding parts_at
    parts_at-turns zero m parts i h p q = absurd (omega arith)
    parts_at-turns (suc n) zero parts i h p q = absurd (omega arith)
    parts_at-turns (suc n) (suc m) parts i h p q =
        after_part-same _ _ i parts (part_after c parts i) (part-within parts i h)
        (λ ps j lj h'. parts_at-turns n m ps j h' (omega arith) (omega arith))

    -- One part, and then the step after it. After this no proof speaks of turns.
    next_part_is : (parts : List P) (i : ℕ) → i < length t
        → parts_at r c t (length t) parts i
        ≡ after_part r c t (parts_at r c t (length t)) parts (part_after c parts i)
    unfolding parts_at
    next_part_is parts i h = parts_at-turns (length t) (suc (length t)) parts i h (omega arith) (omega arith)

    pub next_part-fault : (i x stop : ℕ) (parts : List P) (k : Kind) → i < length t
        → part_after c parts i ≡ fault k x stop
        → parts_at r c t (length t) parts i ≡ if_forgiven r (λ e. c.build e parts) k x stop
    next_part-fault i x stop parts k h v =
        next_part_is parts i h ∙ ap (after_part r c t (parts_at r c t (length t)) parts) v

    pub next_part-done : (i e : ℕ) (parts : List P) (p : P) (s : Step) → i < length t
        → part_after c parts i ≡ done p e
        → step t c.next e ≡ s
        → parts_at r c t (length t) parts i ≡ follow r (parts_at r c t (length t) (parts ++ p ∷ []))
        (λ e. c.build e (parts ++ p ∷ [])) s
    next_part-done i e parts p s h v w =
        let next = parts_at r c t (length t) in
        next_part_is parts i h ∙ ap (after_part r c t next parts) v
        ∙ ap (follow r (next (parts ++ p ∷ [])) (λ e. c.build e (parts ++ p ∷ []))) w

    -- the same of a part that is not refused
    pub parts_at_is : (parts : List P) (i : ℕ) → i < length t → c.refuses parts i ≡ None
        → parts_at r c t (length t) parts i ≡ after_part r c t (parts_at r c t (length t)) parts (c.part i)
    parts_at_is parts i h free =
        next_part_is parts i h ∙ ap (after_part r c t (parts_at r c t (length t)) parts) (part-free c parts i free)

    pub parts-fault : (i x stop : ℕ) (parts : List P) (k : Kind) → i < length t → c.refuses parts i ≡ None
        → c.part i ≡ fault k x stop
        → parts_at r c t (length t) parts i ≡ if_forgiven r (λ e. c.build e parts) k x stop
    parts-fault i x stop parts k h free v = next_part-fault i x stop parts k h (part-free c parts i free ∙ v)

    pub parts-part : (i e : ℕ) (parts : List P) (p : P) (s : Step) → i < length t → c.refuses parts i ≡ None
        → c.part i ≡ done p e
        → step t c.next e ≡ s
        → parts_at r c t (length t) parts i ≡ follow r (parts_at r c t (length t) (parts ++ p ∷ []))
        (λ e. c.build e (parts ++ p ∷ [])) s
    parts-part i e parts p s h free v w = next_part-done i e parts p s h (part-free c parts i free ∙ v) w

  -- the value of a key, after what stands for its colon
  after_colon-within : (i e : ℕ) (k : K) (inner : ℕ → Reading A) (x : Span) → i < e → SpanAhead t e 0 x
      → AllWithin t inner → Within t i (after_colon k inner x)
  after_colon-within i e k inner (failed kind j) lt h all = (omega (arith, h.0), h.1.within, h.1)
  after_colon-within i e k inner (taken u j) lt h all = by (inner j) (all j (omega (arith, h.1))) where
    by : (x : Reading A) → Within t j x → Within t i (with_key k x)
    by (done a d) w = (omega (arith, w.0, h.0), w.1)
    by (fault kind x stop) w = (omega (arith, w.0, h.0), w.1, w.2)

  after_key-within : (i : ℕ) (inner : ℕ → Reading A) (x : Scanned K) → i < length t → ScalarWithin t i x
      → AllWithin t inner
      → ((e : ℕ) → e ≤ length t → SpanAhead t e 0 (object_colon t e)) → Within t i (after_key inner t i x)
  after_key-within i inner (failed kind j) lt h all ended = (omega arith, omega arith, h.1)
  after_key-within i inner (taken k e) lt h all ended =
      after_colon-within i e k inner (object_colon t e) h.0 (ended e h.1) all

  module _ (good : Advances r t) (inner : ℕ → Reading A) (all : AllWithin t inner) (i : ℕ) where
    pub array_of-goes : Goes (array_of r inner t i) t
    array_of-goes =
        record {
          first = container_first-ahead t shape.Array;
          next = container_step-ahead t shape.Array;
          part = all;
          refuses = λ items j x k h e. absurd (none-some _ e);
        }

    pub object_of-goes : Goes (object_of r inner t i) t
    object_of-goes =
        record {
          first = container_first-ahead t shape.Object;
          next = container_step-ahead t shape.Object;
          part = λ j h.
              after_key-within j inner (r.key t j) h (good.key j h) all (object_colon-ahead t);
          refuses = λ members j x k h e. good.refuses members j x k h e;
        }

    scalar_at-within : (x : Scanned A) → i < length t → ScalarWithin t i x → Within t i (scalar_at i x)
    scalar_at-within (taken a e) h w = w
    scalar_at-within (failed k j) h w = (omega arith, omega arith, w.1)

    value_with-within : (s : Start) → i < length t → Within t i (value_with r inner t i s)
    value_with-within start.Array h = container_at-within (array_of r inner t i) array_of-goes i h
    value_with-within start.Object h = container_at-within (object_of r inner t i) object_of-goes i h
    value_with-within start.String h = scalar_at-within (r.text t i) h (good.text i h)
    value_with-within start.Number h = scalar_at-within (r.number t i) h (good.number i h)
    value_with-within (start.Literal l) h = scalar_at-within (r.literal t l i) h (good.literal l i h)
    value_with-within start.Nothing h =
        (omega arith, omega arith, fault-byte t expected_value i (λ e. cc) refl (omega arith))

  pub inside_at-within : Advances r t → (levels : ℕ) → AllWithin t (inside_at r t levels)
  unfolding inside_at
  inside_at-within good zero i h =
      (omega arith, omega arith, fault-byte t recursion_limit i (λ e. cc) refl (omega arith))
  inside_at-within good (suc levels) i h =
      value_with-within good (λ j. inside_at r t levels j) (inside_at-within good levels) i _ h

  pub value_at-within : Advances r t → (levels : ℕ) → AllWithin t (value_at r t levels)
  value_at-within good levels i h =
      value_with-within good (inside_at r t levels) (inside_at-within good levels) i (start_of (slice_index t i)) h

  pub inside_at-suc : (levels i : ℕ) → inside_at r t (suc levels) i ≡ value_at r t levels i
  unfolding inside_at
  inside_at-suc levels i = refl

  -- A value, by its first byte.
  pub value-starts : (levels i : ℕ) (s : Start) → start_of (slice_index t i) ≡ s
      → value_at r t levels i ≡ value_with r (inside_at r t levels) t i s
  value-starts levels i s e = ap (value_with r (inside_at r t levels) t i) e

  -- A member, by its key, its colon and its value.
  pub member-key : (inner : ℕ → Reading A) (i j : ℕ) (k : Kind) → r.key t i ≡ failed k j
      → after_key inner t i (r.key t i) ≡ fault k j i
  member-key inner i j k e = ap (after_key inner t i) e

  pub member-colon : (inner : ℕ → Reading A) (i e j : ℕ) (key : K) (k : Kind) → r.key t i ≡ taken key e
      → object_colon t e ≡ failed k j → after_key inner t i (r.key t i) ≡ fault k j j
  member-colon inner i e j key k h w = ap (after_key inner t i) h ∙ ap (after_colon key inner) w

  pub member-value : (inner : ℕ → Reading A) (i e j : ℕ) (key : K) (x : Reading A) → r.key t i ≡ taken key e
      → object_colon t e ≡ taken tt j → inner j ≡ x → after_key inner t i (r.key t i) ≡ with_key key x
  member-value inner i e j key x h w v =
      ap (after_key inner t i) h ∙ ap (after_colon key inner) w ∙ ap (with_key key) v

  pub inside_at-none : (levels i : ℕ) → levels ≡ 0 → inside_at r t levels i ≡ fault recursion_limit i i
  unfolding inside_at
  inside_at-none levels i z = ap (λ n. inside_at r t n i) z

  -- The value inside, by its first byte.
  pub inside_at-starts : (levels i : ℕ) (s : Start) → 0 < levels → start_of (slice_index t i) ≡ s
      → inside_at r t levels i ≡ value_with r (inside_at r t (levels - 1)) t i s
  unfolding inside_at
  inside_at-starts zero i s lt e = absurd (omega arith)
  inside_at-starts (suc levels) i s lt e =
      let same : suc levels - 1 ≡ levels = omega arith in ap (value_with r (inside_at r t levels) t i) e
      ∙ ap (λ n. value_with r (inside_at r t n) t i s) (sym same)
