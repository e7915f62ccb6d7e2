-- The turns of the machine, over its stacks.
use Rattle.jiter_value.proofs.Words.{◌≡◌, ℕ, suc, ◌+◌, ◌-◌, ◌<◌, ◌≤◌, true, false, cond, List, [], ◌∷◌, ◌++◌, length}
use Rattle.jiter_value.proofs.Words.{take, drop, map, get_or, refl, sym, ap, ap₂, ◌∙◌, arith, length-append, reverse}
use Rattle.jiter_value.proofs.Words.{slice_set, slice_index, None, Global, CowStr, get_or-append_seam, reverse-append}
use Rattle.jiter_value.proofs.Words.{map_push, take-append-le, take_all, take_more, length-take-le, length-reverse}
use Rattle.jiter_value.proofs.Words.{Kind, fault_kind, recursion_limit, Scanned, taken, failed, PartialMode, Off, On}
use Rattle.jiter_value.proofs.Words.{TrailingStrings, seen_as, Text, Tree, start_of, more, step, container_first}
use Rattle.jiter_value.proofs.Words.{object_colon, opening, text_view, whole, string_at, Reading, Container, done}
use Rattle.jiter_value.proofs.Words.{fault, value_at, scalar_at, ReadError, Frame, resolve_step, resume, parts_from}
use Rattle.jiter_value.proofs.Words.{object_in, ContainerKind, Advances, if_forgiven-no, resume-fault, HoldsNothing}
use Rattle.jiter_value.proofs.Words.{TextPolicy, forgives, rules_as, Member, member_view, frames, PartTree, built}
use Rattle.jiter_value.proofs.Words.{parts_above, frames_below, HavePartBase, HaveBases, HaveKeyBase, key_in}
use Rattle.jiter_value.proofs.Words.{container_fault_in, refused_in, slot_in, Stands, Fails, IsResolved, view, Settings}
use Rattle.jiter_value.proofs.Words.{Slot, OpenContainer, Stacks, JsonValue}
use Rattle.std.proofs.Math.Seq.{set-append_seam}
use Rattle.std.proofs.lemmas.List.{drop-append-le}
use Rattle.std.proofs.lemmas.List.{nil_from_length}
use Rattle.jiter_steps.specs.Step.{Step, closed, stuck, container_step}
use Rattle.jiter_steps.specs.Frames.{members_frame, parts_step, value_in}
use Rattle.jiter_steps.specs.Frames.{array_in, value_from}
use Rattle.jiter_steps.specs.declared.parse.ContainerKind.TheVariants as shape
use Rattle.jiter_steps.proofs.Calls.Resumed.{IgnoresBegin, value_in-levels, value_in-limit}
use Rattle.jiter_steps.proofs.Calls.Resumed.{step-to, step-stuck, items-value, key-value, key-failed}
use Rattle.jiter_steps.proofs.Calls.Resumed.{colon-failed, container-begins}
use Rattle.jiter_value.specs.Stacks.{last_key_of, last_key, but_last}
use Rattle.jiter_value.specs.Stacks.{after_in, container_in, empty_tree}
use Rattle.jiter_value.specs.declared.parse.stacks.Slot.TheVariants as slot
use Rattle.jiter_value.proofs.MadeTexts.{rules_as-advances}

-- a list's last, set
pub set-last : (xs before : List Member) (n : ℕ) (key : CowStr Global) (old v : JsonValue) (got : Member)
    → xs ≡ before ++ (key, old) ∷ [] → n ≡ length before → got ≡ get_or xs n got
    → slice_set xs n (got.0, v) ≡ before ++ (key, v) ∷ []
set-last xs before n key old v got h at g =
    let is : got ≡ (key, old) = g ∙ ap₂ (λ ys m. get_or ys m got) h at ∙ get_or-append_seam before (key, old) [] got in
    rw (is, h, at) (set-append_seam before (key, old) [] (key, v))

last-split : {X : Type 0} (xs : List X) → 0 < length xs → (x : X) × (xs ≡ take (length xs - 1) xs ++ x ∷ [])
last-split [] h = let no : ⊥ = omega arith in absurd no
last-split (y ∷ ys) h =
    let n = length (y ∷ ys) - 1 in
    (get_or (y ∷ ys) n y, sym (take_all (n + 1) (y ∷ ys) (omega arith)) ∙ take_more (y ∷ ys) n y (omega arith))

-- a list with one more, above a place within it
pub above-more : {X Y : Type 0} (f : X → Y) (n : ℕ) (xs : List X) (x : X) → n ≤ length xs
    → map f (drop n (xs ++ x ∷ [])) ≡ map f (drop n xs) ++ f x ∷ []
above-more f n xs x h = ap (map f) (drop-append-le n xs (x ∷ []) h) ∙ map_push f (drop n xs) x

last_key_of-append : (x : Member) (xs : List Member) (m : Member) → last_key_of x (xs ++ m ∷ []) ≡ text_view m.0
last_key_of-append x [] m = refl
last_key_of-append x (y ∷ ys) m = last_key_of-append y ys m

last_key-append : (xs : List Member) (m : Member) → last_key (xs ++ m ∷ []) ≡ text_view m.0
last_key-append [] m = refl
last_key-append (x ∷ xs) m = last_key_of-append x xs m

but_last-append : (xs : List Member) (m : Member) → but_last (xs ++ m ∷ []) ≡ xs
but_last-append xs m =
    let e : length (xs ++ m ∷ []) - 1 ≡ length xs = omega (arith, length-append xs (m ∷ [])) in
    ap (λ n. take n (xs ++ m ∷ [])) e ∙ take-append-le (length xs) xs (m ∷ []) (omega arith)
    ∙ take_all (length xs) xs (omega arith)

-- an object that awaits the value of this key
pub value-frames : (o : OpenContainer) (os : List OpenContainer) (es : List JsonValue) (before : List Member) (m : Member)
    → o.base ≤ length before
    → frames slot.Member (o ∷ os) es (before ++ m ∷ []) ≡ members_frame (map member_view (drop o.base before))
    (text_view m.0) ∷ frames o.outer os es (take o.base before)
value-frames o os es before m h =
    rw (
      drop-append-le o.base before (m ∷ []) h,
      take-append-le o.base before (m ∷ []) h,
      but_last-append (drop o.base before) m,
      last_key-append (drop o.base before) m,
    ) refl

-- the frames, where an object awaits the value of a key that is not a member's yet
abbrev pub frames_at_key : Text → List OpenContainer → List JsonValue → List Member → List (Frame Text Tree)
frames_at_key k [] es ms = []
frames_at_key k (o ∷ os) es ms =
    members_frame (map member_view (drop o.base ms)) k ∷ frames o.outer os es (take o.base ms)

length-frames : (a : Slot) (os : List OpenContainer) (n m : ℕ) (es : List JsonValue) (ms : List Member)
    → HaveBases a os n m → length (frames a os es ms) ≡ length os
length-frames a [] n m es ms h = refl
length-frames slot.Item (o ∷ os) n m es ms h = ap suc (length-frames o.outer os o.base m (take o.base es) ms h.1)
length-frames slot.Member (o ∷ os) n m es ms h = ap suc (length-frames o.outer os n o.base es (take o.base ms) h.1)
length-frames _ (o ∷ os) n m es ms h = absurd h

-- A value that is awaited is after the last key.
pub last-member : (os : List OpenContainer) (n : ℕ) (ms : List Member) → HaveBases slot.Member os n (length ms)
    → (m : Member) × (ms ≡ take (length ms - 1) ms ++ m ∷ []) × HaveKeyBase os n (length (take (length ms - 1) ms))
last-member [] n ms h = absurd h
last-member (o ∷ os) n ms h =
    let last = last-split ms (omega (arith, h.0)) in
    let long = length-take-le (length ms - 1) ms (omega arith) in
    (last.0, last.1, (omega (arith, h.0, long), h.1))

limit-kept : (mode : PartialMode) → forgives mode recursion_limit ≡ false
limit-kept Off = refl
limit-kept On = refl
limit-kept TrailingStrings = refl

-- what the reading of a scalar says of the scalar
pub scalar-taken : {A : Type 0} (i : ℕ) (x : Scanned A) (a : A) (e : ℕ) → scalar_at i x ≡ done a e → x ≡ taken a e
scalar-taken i (taken b d) a e h = cc
scalar-taken i (failed k j) a e h = absurd (cc)

pub scalar-failed : {A : Type 0} (i : ℕ) (x : Scanned A) (k : Kind) (j stop : ℕ) → scalar_at i x ≡ fault k j stop
    → (x ≡ failed k j) × (stop ≡ i)
scalar-failed i (taken b d) k j stop h = absurd (cc)
scalar-failed i (failed l m) k j stop h = (cc, cc)

module _ (policy : TextPolicy) (p : Settings) (t : List ℕ) where
  good : Advances (rules_as policy p) t
  good = rules_as-advances policy p t

  any : IgnoresBegin (rules_as policy p)
  any = record { array = λ b. refl; object = λ b. refl }

  -- A value goes where it belongs.
  pub put-item : (os : List OpenContainer) (es : List JsonValue) (ms : List Member) (root v : JsonValue) (e : ℕ)
      → HaveBases slot.Item os (length es) (length ms)
      → resume (rules_as policy p) t (frames slot.Item os es ms) (done (view v) e) ≡ after_in policy p t slot.Item os
      (es ++ v ∷ [])
      ms root e
  put-item [] es ms root v e h = absurd h
  put-item (o ∷ os) es ms root v e h = rw (above-more view o.base es v h.0, take-append-le o.base es (v ∷ []) h.0) refl

  pub put-value : (os : List OpenContainer) (es : List JsonValue) (before : List Member) (m : Member) (root v : JsonValue)
      (e : ℕ) → HaveKeyBase os (length es) (length before)
      → resume (rules_as policy p) t (frames slot.Member os es (before ++ m ∷ [])) (done (view v) e) ≡ after_in policy p t
      slot.Member os es (before ++ (m.0, v) ∷ []) root e
  put-value [] es before m root v e h = absurd h
  put-value (o ∷ os) es before m root v e h =
      rw (
        value-frames o os es before m h.0,
        above-more member_view o.base before (m.0, v) h.0,
        take-append-le o.base before ((m.0, v) ∷ []) h.0,
      ) refl

  -- A container ends.
  pub container-closes : (h : ContainerKind) (nest init : List OpenContainer) (o : OpenContainer) (es : List JsonValue) (ms : List Member)
      (fs : List (Frame Text Tree)) (x : Tree) (e : ℕ)
      → nest ≡ init ++ o ∷ [] → fs ≡ frames_below h o (reverse init) es ms → x ≡ built h (parts_above h o.base es ms)
      → container_in policy p t h (reverse nest) es ms e ≡ resume (rules_as policy p) t fs (done x e)
  container-closes h nest init o es ms fs x e is below policy =
      rw (is, reverse-append init (o ∷ []), below, policy) refl

  -- After a part: the step that is taken there, inside what is below.
  abbrev pub container_of : (h : ContainerKind) → ℕ → Container (PartTree h) Tree
  container_of shape.Array depth = array_in (rules_as policy p) t depth
  container_of shape.Object depth = object_in (rules_as policy p) t depth

  -- where a step after a part of it leads
  after-to : (h : ContainerKind) (o : OpenContainer) (os : List OpenContainer) (es : List JsonValue) (ms : List Member) (root : JsonValue)
      (e : ℕ) (u : Step) → resolve_step (forgives p.mode) (step t (container_step h t) e) ≡ u
      → after_in policy p t (slot_in h) (o ∷ os) es ms root e ≡ resume (rules_as policy p) t (frames_below h o os es ms)
      (parts_step (rules_as policy p) t (container_of h (length (frames_below h o os es ms)))
      (parts_above h o.base es ms) u)
  after-to shape.Array o os es ms root e u is =
      let fs = frames o.outer os (take o.base es) ms in
      step-to (rules_as policy p) t (array_in (rules_as policy p) t (length fs)) fs (map view (drop o.base es)) _ u is
  after-to shape.Object o os es ms root e u is =
      let fs = frames o.outer os es (take o.base ms) in
      step-to (rules_as policy p) t (object_in (rules_as policy p) t (length fs)) fs (map member_view (drop o.base ms)) _
      u is

  -- what a container of these parts ends as
  built-to : (h : ContainerKind) (fs : List (Frame Text Tree)) (xs : List (PartTree h)) (c : ℕ)
      → resume (rules_as policy p) t fs (parts_step (rules_as policy p) t (container_of h (length fs)) xs (closed c))
      ≡ resume (rules_as policy p) t fs (done (built h xs) c)
  built-to shape.Array fs xs c = refl
  built-to shape.Object fs xs c = refl

  -- and an error in it that is not forgiven
  stuck-to : (h : ContainerKind) (fs : List (Frame Text Tree)) (xs : List (PartTree h)) (k : Kind) (j : ℕ)
      → forgives p.mode k ≡ false
      → resume (rules_as policy p) t fs (parts_step (rules_as policy p) t (container_of h (length fs)) xs (stuck k j)) ≡
      fault k j j
  stuck-to h fs xs k j bad =
      step-stuck (rules_as policy p) t (container_of h (length fs)) fs xs (stuck k j) k j
      (ap (λ y. cond y (closed j) (stuck k j)) bad) bad

  outermost : (h : ContainerKind) (n m : ℕ) → HaveBases (slot_in h) [] n m → ⊥
  outermost shape.Array n m b = b
  outermost shape.Object n m b = b

  -- an error follows a part
  stuck-after : (h : ContainerKind) (o : OpenContainer) (os : List OpenContainer) (es : List JsonValue) (ms : List Member)
      (root : JsonValue) (e : ℕ) (k : Kind) (j : ℕ) → step t (container_step h t) e ≡ stuck k j
      → after_in policy p t (slot_in h) (o ∷ os) es ms root e ≡ container_fault_in policy p t h (o ∷ os) es ms k j j
  stuck-after shape.Array o os es ms root e k j s = rw s refl
  stuck-after shape.Object o os es ms root e k j s = rw s refl

  alone : (h : ContainerKind) (n m : ℕ) → HavePartBase h [] n m → ⊥
  alone shape.Array n m b = b
  alone shape.Object n m b = b

  -- a part of the innermost container is awaited at j
  abbrev pub part_in : ContainerKind → List OpenContainer → List JsonValue → List Member → ℕ → Reading Tree
  part_in shape.Array os es ms j = value_from (rules_as policy p) t (frames slot.Item os es ms) j
  part_in shape.Object os es ms j = key_in policy p t os es ms j

  pub next-part : (h : ContainerKind) (o : OpenContainer) (os : List OpenContainer) (es : List JsonValue) (ms : List Member) (j : ℕ)
      → j < length t
      → resume (rules_as policy p) t (frames_below h o os es ms)
      (parts_from (rules_as policy p) t (container_of h (length (frames_below h o os es ms)))
      (parts_above h o.base es ms) j) ≡
      part_in h (o ∷ os) es ms j
  next-part shape.Array o os es ms j h =
      items-value (rules_as policy p) t good (frames o.outer os (take o.base es) ms) (map view (drop o.base es)) j h
  next-part shape.Object o os es ms j h = refl

  module _ (h : ContainerKind) (es : List JsonValue) (ms : List Member) (root : JsonValue) (e : ℕ) where
    pub after-more : (os : List OpenContainer) (j : ℕ) → HaveBases (slot_in h) os (length es) (length ms)
        → step t (container_step h t) e ≡ more j → j < length t
        → after_in policy p t (slot_in h) os es ms root e ≡ part_in h os es ms j
    after-more [] j b s lt = absurd (outermost h (length es) (length ms) b)
    after-more (o ∷ os) j b s lt =
        after-to h o os es ms root e (more j) (ap (resolve_step (forgives p.mode)) s) ∙ next-part h o os es ms j lt

    pub after-closed : (os : List OpenContainer) (c : ℕ) → HaveBases (slot_in h) os (length es) (length ms)
        → resolve_step (forgives p.mode) (step t (container_step h t) e) ≡ closed c
        → after_in policy p t (slot_in h) os es ms root e ≡ container_in policy p t h os es ms c
    after-closed [] c b s = absurd (outermost h (length es) (length ms) b)
    after-closed (o ∷ os) c b s =
        after-to h o os es ms root e (closed c) s
        ∙ built-to h (frames_below h o os es ms) (parts_above h o.base es ms) c

    -- an error that is not forgiven
    pub after-fails : (os : List OpenContainer) (j : ℕ) (error : ReadError)
        → HaveBases (slot_in h) os (length es) (length ms)
        → IsResolved p false error j (step t (container_step h t) e)
        → Fails error j (after_in policy p t (slot_in h) os es ms root e)
    after-fails [] j error b r = absurd (outermost h (length es) (length ms) b)
    after-fails (o ∷ os) j error b r =
        rw (r.1, r.2)
        (after-to h o os es ms root e (stuck (fault_kind r.0.kind) j) r.3
        ∙ stuck-to h (frames_below h o os es ms) (parts_above h o.base es ms) (fault_kind r.0.kind) j r.4)

    pub after-stuck : (os : List OpenContainer) (k : Kind) (j : ℕ) → HaveBases (slot_in h) os (length es) (length ms)
        → step t (container_step h t) e ≡ stuck k j
        → after_in policy p t (slot_in h) os es ms root e ≡ container_fault_in policy p t h os es ms k j j
    after-stuck [] k j b s = absurd (outermost h (length es) (length ms) b)
    after-stuck (o ∷ os) k j b s = stuck-after h o os es ms root e k j s

  -- An error where a value is awaited.
  pub fault-item : (os : List OpenContainer) (es : List JsonValue) (ms : List Member) (n m : ℕ) (k : Kind) (x stop : ℕ)
      → HaveBases slot.Item os n m
      → resume (rules_as policy p) t (frames slot.Item os es ms) (fault k x stop)
      ≡ container_fault_in policy p t shape.Array os es ms k x stop
  fault-item [] es ms n m k x stop b = absurd b
  fault-item (o ∷ os) es ms n m k x stop b = refl

  pub fault-value : (os : List OpenContainer) (es : List JsonValue) (before : List Member) (m : Member) (k : Kind)
      (x stop : ℕ) → HaveKeyBase os (length es) (length before)
      → resume (rules_as policy p) t (frames slot.Member os es (before ++ m ∷ [])) (fault k x stop)
      ≡ container_fault_in policy p t shape.Object os es before k x stop
  fault-value [] es before m k x stop b = absurd b
  fault-value (o ∷ os) es before m k x stop b = rw (value-frames o os es before m b.0) refl

  pub fault-root : (os : List OpenContainer) (es : List JsonValue) (ms : List Member) (n m : ℕ) (k : Kind) (x stop : ℕ)
      → HaveBases slot.Root os n m
      → resume (rules_as policy p) t (frames slot.Root os es ms) (fault k x stop) ≡ fault k x stop
  fault-root [] es ms n m k x stop b = refl
  fault-root (o ∷ os) es ms n m k x stop b = absurd b

  -- A value begins.
  module _ (s : Stacks) (a : Slot) (bases : Stands s a) (few : length s.nest.items ≤ 200) (i : ℕ) where
    abbrev fs : List (Frame Text Tree)
    fs = frames a (reverse s.nest.items) s.items.items s.members.items

    low : length fs ≤ 200
    low =
        let es = s.items.items in
        let ms = s.members.items in
        let deep = length-frames a (reverse s.nest.items) (length es) (length ms) es ms bases in
        omega (arith, deep, few, length-reverse s.nest.items)

    pub value-read : (x : Reading Tree) → ((levels : ℕ) → value_at (rules_as policy p) t levels i ≡ x)
        → value_from (rules_as policy p) t fs i ≡ resume (rules_as policy p) t fs x
    value-read x is = ap (resume (rules_as policy p) t fs) (value_in-levels (rules_as policy p) t (length fs) i low ∙ is
        (200 - length fs))

    -- a container begins, by where the step after its bracket leads
    pub begins : (h : ContainerKind) (u : Step) → start_of (slice_index t i) ≡ opening h
        → resolve_step (forgives p.mode) (step t (container_first h) (i + 1)) ≡ u
        → value_from (rules_as policy p) t fs i ≡ resume (rules_as policy p) t fs
        (parts_step (rules_as policy p) t (container_of h (length fs)) [] u)
    begins shape.Array u is s = container-begins (rules_as policy p) t good any fs i u low shape.Array is s
    begins shape.Object u is s = container-begins (rules_as policy p) t good any fs i u low shape.Object is s

    pub begins-closed : (h : ContainerKind) (c : ℕ) → start_of (slice_index t i) ≡ opening h
        → resolve_step (forgives p.mode) (step t (container_first h) (i + 1)) ≡ closed c
        → value_from (rules_as policy p) t fs i ≡ resume (rules_as policy p) t fs (done (empty_tree h) c)
    begins-closed shape.Array c is s = begins shape.Array (closed c) is s
    begins-closed shape.Object c is s = begins shape.Object (closed c) is s

    -- an error after its bracket that is not forgiven
    pub begins-fails : (h : ContainerKind) (j : ℕ) (error : ReadError) → start_of (slice_index t i) ≡ opening h
        → IsResolved p false error j (step t (container_first h) (i + 1))
        → Fails error j (value_from (rules_as policy p) t fs i)
    begins-fails h j error is r =
        rw (r.1, r.2)
        (begins h (stuck (fault_kind r.0.kind) j) is r.3 ∙ stuck-to h fs [] (fault_kind r.0.kind) j r.4)

  -- A value is inside too many containers.
  limit-in : (fs : List (Frame Text Tree)) (j : ℕ) → length fs ≡ 201
      → value_from (rules_as policy p) t fs j ≡ fault recursion_limit j j
  limit-in fs j full =
      ap (λ n. resume (rules_as policy p) t fs (value_in (rules_as policy p) t n j)) full
      ∙ ap (resume (rules_as policy p) t fs) (value_in-limit (rules_as policy p) t j)
      ∙ resume-fault (rules_as policy p) t fs recursion_limit j j (limit-kept p.mode)

  pub limit-reached : (a : Slot) (os : List OpenContainer) (es : List JsonValue) (ms : List Member) (j : ℕ)
      → HaveBases a os (length es) (length ms) → length os ≡ 201
      → value_from (rules_as policy p) t (frames a os es ms) j ≡ fault recursion_limit j j
  limit-reached a os es ms j b full =
      limit-in (frames a os es ms) j (length-frames a os (length es) (length ms) es ms b ∙ full)

  -- the same after a key
  pub key-limit : (k : Text) (os : List OpenContainer) (es : List JsonValue) (ms : List Member) (j : ℕ)
      → HaveKeyBase os (length es) (length ms) → length os ≡ 201
      → value_from (rules_as policy p) t (frames_at_key k os es ms) j ≡ fault recursion_limit j j
  key-limit k [] es ms j b full = absurd b
  key-limit k (o ∷ os) es ms j b full =
      limit-in (frames_at_key k (o ∷ os) es ms) j
      (ap suc (length-frames o.outer os (length es) o.base es (take o.base ms) b.1) ∙ full)

  -- A key begins: what is made of it awaits its value,
  pub key-begins : (os : List OpenContainer) (es : List JsonValue) (ms : List Member) (j : ℕ) (k : Text) (e m : ℕ)
      → HaveKeyBase os (length es) (length ms) → refused_in policy t os ms j ≡ None → j < length t
      → scalar_at j (string_at whole t j) ≡ done k e → object_colon t e ≡ taken tt m
      → key_in policy p t os es ms j ≡ value_from (rules_as policy p) t (frames_at_key (policy.text k) os es ms) m
  key-begins [] es ms j k e m b free h v s = absurd b
  key-begins (o ∷ os) es ms j k e m b free h v s =
      key-value (rules_as policy p) t good (frames o.outer os es (take o.base ms)) (map member_view (drop o.base ms)) j
      e m
      (policy.text k) h free (ap (seen_as (λ s e. policy.text s)) (scalar-taken j (string_at whole t j) k e v)) s

  -- and is the last member's.
  pub key-opens : (os : List OpenContainer) (es : List JsonValue) (ms : List Member) (j : ℕ) (k : Text) (kept : CowStr Global)
      (v : JsonValue) (e m : ℕ) → HaveKeyBase os (length es) (length ms) → refused_in policy t os ms j ≡ None
      → j < length t
      → scalar_at j (string_at whole t j) ≡ done k e → text_view kept ≡ policy.text k → object_colon t e ≡ taken tt m
      → key_in policy p t os es ms j
      ≡ value_from (rules_as policy p) t (frames slot.Member os es (ms ++ (kept, v) ∷ [])) m
  key-opens [] es ms j k kept v e m b free h read is s = absurd b
  key-opens (o ∷ os) es ms j k kept v e m b free h read is s =
      key-begins (o ∷ os) es ms j k e m b free h read s
      ∙ ap (λ x. value_from (rules_as policy p) t (frames_at_key x (o ∷ os) es ms) m) (sym is)
      ∙ ap (λ fs. value_from (rules_as policy p) t fs m) (sym (value-frames o os es ms (kept, v) b.0))

  -- an error of the key, and of its colon
  pub key-fails : (os : List OpenContainer) (es : List JsonValue) (ms : List Member) (j : ℕ) (k : Kind) (x stop : ℕ)
      → HaveKeyBase os (length es) (length ms) → refused_in policy t os ms j ≡ None → j < length t
      → scalar_at j (string_at whole t j) ≡ fault k x stop
      → key_in policy p t os es ms j ≡ container_fault_in policy p t shape.Object os es ms k x stop
  key-fails [] es ms j k x stop b free h v = absurd b
  key-fails (o ∷ os) es ms j k x stop b free h v =
      let key = scalar-failed j (string_at whole t j) k x stop v in
      rw key.1
      (key-failed (rules_as policy p) t good (frames o.outer os es (take o.base ms)) (map member_view (drop o.base ms))
      j x k h free
      (ap (seen_as (λ s e. policy.text s)) key.0))

  pub colon-fails : (os : List OpenContainer) (es : List JsonValue) (ms : List Member) (j : ℕ) (key : Text) (e x stop : ℕ)
      (k : Kind) → HaveKeyBase os (length es) (length ms) → refused_in policy t os ms j ≡ None → j < length t
      → scalar_at j (string_at whole t j) ≡ done key e → (object_colon t e ≡ failed k x) × (stop ≡ x)
      → key_in policy p t os es ms j ≡ container_fault_in policy p t shape.Object os es ms k x stop
  colon-fails [] es ms j key e x stop k b free h v s = absurd b
  colon-fails (o ∷ os) es ms j key e x stop k b free h v s =
      colon-failed (rules_as policy p) t good (frames o.outer os es (take o.base ms)) (map member_view (drop o.base ms))
      j e x
      (policy.text key) k h free (ap (seen_as (λ s e. policy.text s)) (scalar-taken j
      (string_at whole t j) key e v)) s.0 ∙ ap
      (container_fault_in policy p t shape.Object (o ∷ os) es ms k x) (sym s.1)

  -- an error that is not forgiven
  pub fault-kept : (h : ContainerKind) (os : List OpenContainer) (es : List JsonValue) (ms : List Member) (k : Kind) (x stop : ℕ)
      → forgives p.mode k ≡ false → container_fault_in policy p t h os es ms k x stop ≡ fault k x stop
  fault-kept h [] es ms k x stop bad = refl
  fault-kept h (o ∷ os) es ms k x stop bad =
      let fs = frames_below h o os es ms in
      ap (resume (rules_as policy p) t fs)
      (if_forgiven-no (rules_as policy p) t (λ e. built h (parts_above h o.base es ms)) k x stop bad)
      ∙ resume-fault (rules_as policy p) t fs k x stop bad

  -- and one that is
  pub fault-forgiven : (h : ContainerKind) (os : List OpenContainer) (es : List JsonValue) (ms : List Member) (k : Kind)
      (x stop : ℕ) → HavePartBase h os (length es) (length ms) → forgives p.mode k ≡ true
      → container_fault_in policy p t h os es ms k x stop ≡ container_in policy p t h os es ms stop
  fault-forgiven h [] es ms k x stop b ok = absurd (alone h (length es) (length ms) b)
  fault-forgiven h (o ∷ os) es ms k x stop b ok = rw ok refl

-- a value that is there needs no key any more
pub key-base : (os : List OpenContainer) (n m : ℕ) → HaveBases slot.Member os n m → HaveKeyBase os n m
key-base [] n m h = absurd h
key-base (o ∷ os) n m h = (omega (arith, h.0), h.1)

-- and after a key one is awaited
pub key-above : (os : List OpenContainer) (n : ℕ) (ms : List Member) (m : Member) → HaveKeyBase os n (length ms)
    → HaveBases slot.Member os n (length (ms ++ m ∷ []))
key-above [] n ms m h = absurd h
key-above (o ∷ os) n ms m h = (omega (arith, h.0, length-append ms (m ∷ [])), h.1)

-- Nothing is held before the first value.
pub root-stands : (nest : List OpenContainer) (es : List JsonValue) (ms : List Member) → nest ≡ [] → es ≡ [] → ms ≡ []
    → HaveBases slot.Root (reverse nest) (length es) (length ms)
root-stands nest es ms a b c =
    rw (a, b, c) (refl, refl)

pub root-from : (policy : TextPolicy) (p : Settings) (t : List ℕ) (os : List OpenContainer) (es : List JsonValue)
    (ms : List Member) (n m i : ℕ)
    → HaveBases slot.Root os n m
    → value_at (rules_as policy p) t 200 i ≡ value_from (rules_as policy p) t (frames slot.Root os es ms) i
root-from policy p t [] es ms n m i h = sym (value_in-levels (rules_as policy p) t 0 i (omega arith))
root-from policy p t (o ∷ os) es ms n m i h = absurd h

root-parts : (os : List OpenContainer) (n m : ℕ) → HaveBases slot.Root os n m → (n ≡ 0) × (m ≡ 0)
root-parts [] n m h = h
root-parts (o ∷ os) n m h = absurd h

pub root-alone : (os : List OpenContainer) (n m : ℕ) → HaveBases slot.Root os n m → length os ≡ 0
root-alone [] n m h = refl
root-alone (o ∷ os) n m h = absurd h

-- After the document's value nothing is held.
pub root-holds-nothing : (s : Stacks) → Stands s slot.Root → HoldsNothing s
root-holds-nothing s h =
    let none : s.nest.items ≡ [] = nil_from_length s.nest.items
    (sym (length-reverse s.nest.items) ∙ root-alone (reverse s.nest.items) _ _ h)
    in
    let parts = root-parts (reverse s.nest.items) _ _ h in
    record {
      items = nil_from_length s.items.items parts.0;
      members = nil_from_length s.members.items parts.1;
      nest = none;
    }
