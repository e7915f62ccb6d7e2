-- The turns of a skip, as what its open containers complete the reading to.
use Rattle.jiter_steps.proofs.Words.{◌≡◌, ◌≢◌, ℕ, zero, suc, ◌+◌, ◌-◌, ◌<◌, ◌≤◌, Bool, true, false, List, [], ◌∷◌, ◌++◌}
use Rattle.jiter_steps.proofs.Words.{None, length, refl, sym, ap, ap₂, ◌∙◌, arith, slice_index, slice_index_or}
use Rattle.jiter_steps.proofs.Words.{slice_set, Kind, recursion_limit, Scanned, taken, failed, Span, seen_as}
use Rattle.jiter_steps.proofs.Words.{only_ends, nothing_forgiven, start_of, Step, more, closed, stuck, step, opening}
use Rattle.jiter_steps.proofs.Words.{container_first, object_colon, ContainerKind, raw, string_at, Reading, done, fault}
use Rattle.jiter_steps.proofs.Words.{Container, with_key, after_colon, after_key, follow, after_part, inside_at}
use Rattle.jiter_steps.proofs.Words.{parts_at, scalar_at, value_at, value_with, Frame, resolve_step, parts_from}
use Rattle.jiter_steps.proofs.Words.{parts_step, value_in, resume, value_from, value_inside, inside, first_inside}
use Rattle.jiter_steps.proofs.Words.{next_inside, frame_of, open_frames, with_value, number_span, number_at}
use Rattle.jiter_steps.proofs.Words.{get_or-set_same, get_or-set_other, awaits_value}
use Rattle.jiter_steps.specs.declared.parse.ContainerKind.TheVariants as shape
use Rattle.jiter_steps.specs.declared.parse.Start.TheVariants as start
use Rattle.jiter_steps.proofs.Reading.Bounds.{Ahead, container_first-ahead, container_step-ahead}
use Rattle.jiter_steps.proofs.Reading.Instances.{only_ends-advances}
use Rattle.jiter_steps.proofs.Calls.Resumed.{IgnoresBegin, value_in-levels, value_in-limit, resume-fault, Part}
use Rattle.jiter_steps.proofs.Calls.Resumed.{container_in, container-begins, container_in-goes}
use Rattle.jiter_steps.proofs.Reading.Values.{Advances, parts_at_is, part-free}

-- The end of a number alone, in the words of the reading that gives ends alone.
span-again : (t : List ℕ) (i : ℕ) (x : Span) → seen_as (λ n e. tt {0}) (with_value t i x) ≡ x
span-again t i (taken u e) = refl
span-again t i (failed k j) = refl

pub number_at-end : (names : Bool) (t : List ℕ) (i : ℕ)
    → seen_as (λ n e. tt {0}) (number_at names t i) ≡ number_span names t i
unfolding number_at
number_at-end names t i = span-again t i (number_span names t i)

-- where a number begins, its end or its error is all that is read
pub number-value : (names : Bool) (t : List ℕ) (levels i : ℕ) → start_of (slice_index t i) ≡ start.Number
    → value_at (only_ends names) t levels i ≡ scalar_at i (number_span names t i)
number-value names t levels i begins =
    ap (value_with (only_ends names) (λ j. inside_at (only_ends names) t levels j) t i) begins
    ∙ ap (scalar_at i) (number_at-end names t i)

abbrev Frames : Type 0
Frames = List (Frame (Unit {0}) (Unit {0}))

-- ---- the table
pub length-open_frames : (kinds : List ContainerKind) (n : ℕ) → length (open_frames kinds n) ≡ n
length-open_frames kinds zero = refl
length-open_frames kinds (suc n) = ap suc (length-open_frames kinds n)

-- a place at or above the depth says nothing
open_frames-set : (kinds : List ContainerKind) (d n : ℕ) (o : ContainerKind) → n ≤ d
    → open_frames (slice_set kinds d o) n ≡ open_frames kinds n
open_frames-set kinds d zero o h = refl
open_frames-set kinds d (suc n) o h =
    let other : n ≢ d = omega arith in
    ap₂ (λ x fs. frame_of x ∷ fs) (get_or-set_other kinds d n o shape.Array other)
    (open_frames-set kinds d n o (omega arith))

pub open_frames-opens : (kinds : List ContainerKind) (d : ℕ) (o : ContainerKind) → d < length kinds
    → open_frames (slice_set kinds d o) (d + 1) ≡ frame_of o ∷ open_frames kinds d
open_frames-opens kinds d o h =
    let e : d + 1 ≡ suc d = omega arith in
    ap (open_frames (slice_set kinds d o)) e
    ∙ ap₂ (λ x fs. frame_of x ∷ fs) (get_or-set_same kinds d o shape.Array h)
    (open_frames-set kinds d d o (omega arith))

-- nothing is forgiven
step-kept : (s : Step) → resolve_step nothing_forgiven s ≡ s
step-kept (more j) = refl
step-kept (closed e) = refl
step-kept (stuck k j) = refl

module _ (names : Bool) (t : List ℕ) where
  good : Advances (only_ends names) t
  good = only_ends-advances t names

  any : IgnoresBegin (only_ends names)
  any = record { array = λ b. refl; object = λ b. refl }

  -- what the open containers make of a reading, and of one after some parts of a container inside them
  abbrev resumed : Frames → Reading (Unit {0}) → Reading (Unit {0})
  resumed fs x = resume (only_ends names) t fs x

  abbrev after : {P : Type 0} → Container P (Unit {0}) → Frames → List P → Reading P → Reading (Unit {0})
  after c fs ps x = resumed fs (after_part (only_ends names) c t (parts_from (only_ends names) t c) ps x)

  -- the one inside them
  abbrev innermost : (b : ContainerKind) → Frames → Container (Part (only_ends names) t b) (Unit {0})
  innermost b fs = container_in (only_ends names) t b (length fs)

  -- Which parts a container has makes no difference.
  module _ {P : Type 0} (c : Container P (Unit {0}))
      (same : (e : ℕ) (ps qs : List P) → c.build e ps ≡ c.build e qs)
      (free : (ps : List P) (i : ℕ) → c.refuses ps i ≡ None) where
    after_part-any : (go : List P → ℕ → Reading (Unit {0}))
        → ((ps qs : List P) (j : ℕ) → go ps j ≡ go qs j) → (ps qs : List P) (x : Reading P)
        → after_part (only_ends names) c t go ps x ≡ after_part (only_ends names) c t go qs x
    after_part-any go all ps qs (done p e) =
        let us = ps ++ p ∷ [] in
        let vs = qs ++ p ∷ [] in
        λ k. follow (only_ends names) (λ j. all us vs j k) (λ e. same e us vs k) (step t c.next e)
    after_part-any go all ps qs (fault k i stop) = refl

    parts_at-any : (n : ℕ) (ps qs : List P) (i : ℕ)
        → parts_at (only_ends names) c t n ps i ≡ parts_at (only_ends names) c t n qs i
    unfolding parts_at
    parts_at-any zero ps qs i = refl
    parts_at-any (suc n) ps qs i =
        let go = parts_at (only_ends names) c t n in
        ap (after_part (only_ends names) c t go ps) (part-free c ps i (free ps i))
        ∙ after_part-any go (λ us vs j. parts_at-any n us vs j) ps qs (c.part i)
        ∙ sym (ap (after_part (only_ends names) c t go qs) (part-free c qs i (free qs i)))

    after-any : (fs : Frames) (ps qs : List P) (x : Reading P) → after c fs ps x ≡ after c fs qs x
    after-any fs ps qs x =
        ap (resumed fs)
        (after_part-any (parts_from (only_ends names) t c) (λ us vs j. parts_at-any (length t) us vs j) ps qs x)

  -- What a step inside the innermost container leads to: a value awaited, or the container's end.
  abbrev pub led_on : ContainerKind → Frames → Reading Bool → Reading (Unit {0})
  led_on b fs (done true m) = value_from (only_ends names) t (frame_of b ∷ fs) m
  led_on b fs (done false e) = resumed fs (done tt e)
  led_on b fs (fault k i stop) = fault k i stop

  pub fault-passes : (fs : Frames) (k : Kind) (i stop : ℕ) → resumed fs (fault k i stop) ≡ fault k i stop
  fault-passes fs k i stop = resume-fault (only_ends names) t fs k i stop refl

  -- a key and its colon, inside an object
  module _ (fs : Frames) (members : List (Unit {0} × Unit {0})) where
    abbrev inner : ℕ → Reading (Unit {0})
    inner j = value_in (only_ends names) t (suc (length fs)) j

    abbrev after_member : Reading (Unit {0} × Unit {0}) → Reading (Unit {0})
    after_member x = after (innermost shape.Object fs) fs members x

    colon-step : (u : Unit {0}) (x : Span)
        → after_member (after_colon u inner x)
        ≡ led_on shape.Object fs (awaits_value (after_colon u (λ j. done tt j) x))
    colon-step u (taken v j) =
        after-any (innermost shape.Object fs) (λ e ps qs. refl) (λ ps j. refl) fs members []
        (with_key tt (inner j))
    colon-step u (failed k j) = fault-passes fs k j j

    key-step : (i : ℕ) (x : Scanned (Unit {0}))
        → after_member (after_key inner t i x)
        ≡ led_on shape.Object fs (awaits_value (after_key (λ j. done tt j) t i x))
    key-step i (taken u e) = colon-step u (object_colon t e)
    key-step i (failed k j) = fault-passes fs k j i

  -- a part of the innermost container, and a step to one
  part-led : (b : ContainerKind) (fs : Frames) (parts : List (Part (only_ends names) t b)) (j : ℕ)
      → after (innermost b fs) fs parts ((innermost b fs).part j) ≡ led_on b fs (value_inside b t j)
  part-led shape.Array fs items j =
      after-any (innermost shape.Array fs) (λ e ps qs. refl) (λ ps j. refl) fs items []
      (value_in (only_ends names) t (suc (length fs)) j)
  part-led shape.Object fs members j = key-step fs members j (seen_as (λ s e. tt) (string_at raw t j))

  innermost-free : (b : ContainerKind) (fs : Frames) (parts : List (Part (only_ends names) t b)) (i : ℕ)
      → (innermost b fs).refuses parts i ≡ None
  innermost-free shape.Array fs parts i = refl
  innermost-free shape.Object fs parts i = refl

  parts-led : (b : ContainerKind) (fs : Frames) (parts : List (Part (only_ends names) t b)) (i : ℕ) (s : Step) → Ahead t i s
      → resumed fs (parts_step (only_ends names) t (innermost b fs) parts s) ≡ led_on b fs (inside b t s)
  parts-led b fs parts i (more j) h =
      ap (resumed fs)
      (parts_at_is (only_ends names) t (innermost b fs) (container_in-goes (only_ends names) t good b (length fs))
      parts j h.1 (innermost-free b fs parts j))
      ∙ part-led b fs parts j
  parts-led b fs parts i (closed e) h = refl
  parts-led b fs parts i (stuck k j) h = fault-passes fs k j j

  -- After a value inside a container: the next one, or the container's end.
  pub next_inside-is : (b : ContainerKind) (fs : Frames) (e : ℕ) → e ≤ length t
      → resumed (frame_of b ∷ fs) (done tt e) ≡ led_on b fs (next_inside b t e)
  next_inside-is shape.Array fs e h = parts-led shape.Array fs (tt ∷ []) e _ (container_step-ahead t shape.Array e h)
  next_inside-is shape.Object fs e h =
      parts-led shape.Object fs ((tt, tt) ∷ []) e _ (container_step-ahead t shape.Object e h)

  -- At a container's bracket: the first value inside, or the container's end.
  pub first_inside-is : (b : ContainerKind) (kinds : List ContainerKind) (d i : ℕ) (x : Reading Bool) → d ≤ 200 → i < length t
      → start_of (slice_index t i) ≡ opening b → first_inside b t i ≡ x
      → value_from (only_ends names) t (open_frames kinds d) i ≡ led_on b (open_frames kinds d) x
  first_inside-is b kinds d i x few h opens is =
      let fs = open_frames kinds d in
      let s = step t (container_first b) (i + 1) in
      let few : length fs ≤ 200 = omega (arith, length-open_frames kinds d) in
      container-begins (only_ends names) t good any fs i s few b opens (step-kept s)
      ∙ parts-led b fs [] (i + 1) s (container_first-ahead t b (i + 1) (omega arith)) ∙ ap (led_on b fs) is

  -- a scalar's end, or its error
  pub value_from-is : (kinds : List ContainerKind) (d i : ℕ) (x : Reading (Unit {0})) → d ≤ 200
      → ((levels : ℕ) → value_at (only_ends names) t levels i ≡ x)
      → value_from (only_ends names) t (open_frames kinds d) i ≡ resumed (open_frames kinds d) x
  value_from-is kinds d i x few is =
      let fs = open_frames kinds d in
      let levels = value_in-levels (only_ends names) t (length fs) i (omega (arith, length-open_frames kinds d)) in
      ap (resumed fs) (levels ∙ is (200 - length fs))

  pub value_from-limit : (f : Frame (Unit {0}) (Unit {0})) (fs : Frames) (i : ℕ) → length fs ≡ 200
      → value_from (only_ends names) t (f ∷ fs) i ≡ fault recursion_limit i i
  value_from-limit f fs i full =
      ap (λ n. resumed (f ∷ fs) (value_in (only_ends names) t (suc n) i)) full
      ∙ ap (resumed (f ∷ fs)) (value_in-limit (only_ends names) t i)
      ∙ fault-passes (f ∷ fs) recursion_limit i i

-- the innermost one of some, and what it leads to after a value
pub open_frames-innermost : (kinds : List ContainerKind) (d : ℕ) → 0 < d
    → open_frames kinds d ≡ frame_of (slice_index_or kinds (d - 1) shape.Array) ∷ open_frames kinds (d - 1)
open_frames-innermost kinds d h =
    let e : d ≡ suc (d - 1) = omega arith in
    ap (open_frames kinds) e

pub innermost-led : (names : Bool) (t u : List ℕ) (kinds : List ContainerKind) (d e : ℕ) (x : Reading Bool) → 0 < d → u ≡ t
    → e ≤ length u → next_inside (slice_index_or kinds (d - 1) shape.Array) u e ≡ x
    → resume (only_ends names) t (open_frames kinds d) (done tt e)
    ≡ led_on names t (slice_index_or kinds (d - 1) shape.Array) (open_frames kinds (d - 1)) x
innermost-led names t u kinds d e x some same within at =
    rw (open_frames-innermost kinds d some, ← same, ← at)
    (next_inside-is names u (slice_index_or kinds (d - 1) shape.Array) (open_frames kinds (d - 1)) e within)
