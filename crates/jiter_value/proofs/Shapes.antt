-- What arrays and objects have in common on the stacks: after a part, where they begin and where they end.
use Rattle.jiter_value.proofs.Words.{◌≡◌, ◌≢◌, ℕ, ◌+◌, ◌<◌, ◌≤◌, List, [], ◌∷◌, ◌++◌, length, map, length-append, refl}
use Rattle.jiter_value.proofs.Words.{sym, ap, ap₂, subst, ◌∙◌, arith, suc, inl, inr, slice_index, reverse, IfOk, OnOk}
use Rattle.jiter_value.proofs.Words.{reverse-append, length-reverse, take_all, recursion_limit, resolve_step, resume}
use Rattle.jiter_value.proofs.Words.{parts_from, start_of, container_first, opening, Reading, fault, more, step, Tree}
use Rattle.jiter_value.proofs.Words.{ContainerKind, TextPolicy, forgives, rules_as, from_value, Stands, HavePartBase}
use Rattle.jiter_value.proofs.Words.{frames, parts_above, frames_below, member_view, Member, slot_in, LeavesKeys}
use Rattle.jiter_value.proofs.Words.{frames_size, held, inside_size_in, parts_size, value_size, Proceeds, Reaches, work_left}
use Rattle.jiter_value.proofs.Words.{outcome, MayGrowAs, MayGrowAt, view, Settings, OpenContainer, Slot, Stacks, WhereRefused}
use Rattle.jiter_value.proofs.Words.{State}
use Rattle.std.proofs.lemmas.List.{drop_all}
use Rattle.smallvec.specs.SmallVec.{SmallVec}
use Rattle.jiter_steps.specs.declared.parse.Start.TheVariants as start
use Rattle.jiter_steps.specs.Step.{array_first}
use Rattle.jiter_steps.specs.declared.parse.ContainerKind.TheVariants as shape
use Rattle.jiter_value.specs.Stacks.{StandsInside}
use Rattle.jiter_value.specs.Stacks.{base_of, part_of, HasRoomIn, HoldsSame}
use Rattle.jiter_value.specs.Size.{inside_size}
use Rattle.jiter_value.specs.Turns.{IsReady}
use Rattle.jiter_value.specs.Value.{LeadsOn}
use Rattle.jiter_value.specs.declared.parse.stacks.Slot.TheVariants as slot
use Rattle.jiter_value.proofs.KeptKeys.{kept-on}
use Rattle.jiter_value.proofs.Sizes.{item-size}
use Rattle.jiter_value.proofs.TurnOutcomes.{refused-any}
use Rattle.jiter_value.proofs.StackTurns.{begins, next-part, part_in, container_of, key-base, limit-reached}

pub holds-same : (s : Stacks) → HoldsSame s s
holds-same s = record { items = refl; members = refl; nest = refl; root = refl }

pub inside-stands : (s : Stacks) (h : ContainerKind) → Stands s (slot_in h) → StandsInside h s
inside-stands s shape.Array b = b
inside-stands s shape.Object b = key-base (reverse s.nest.items) (length s.items.items) (length s.members.items) b

-- A part is awaited, and its stack has room; an object's key may be one deeper than an array's item.
module _ (h : ContainerKind) (old new : Stacks) (same : HoldsSame old new) where
  same-part : (policy : TextPolicy) (p : Settings) (t : List ℕ) (j : ℕ) (x : Reading Tree)
      → x ≡ part_in policy p t h (reverse old.nest.items) old.items.items old.members.items j
      → x ≡ part_in policy p t h (reverse new.nest.items) new.items.items new.members.items j
  same-part policy p t j x is = rw (same.nest, same.items, same.members) is

  same-stands : StandsInside h old → StandsInside h new
  same-stands stands = rw (same.nest, same.items, same.members) stands

  same-size : inside_size h new ≡ inside_size h old
  same-size = rw (same.nest, same.items, same.members) refl

part-reaches : (policy : TextPolicy) (p : Settings) (t : List ℕ) (s : Stacks) (h : ContainerKind) (j : ℕ)
    (x : Reading Tree)
    → x ≡ part_in policy p t h (reverse s.nest.items) s.items.items s.members.items j → StandsInside h s
    → (h ≡ shape.Array → length s.nest.items ≤ 200) → length s.nest.items ≤ 201 → j < length t → HasRoomIn h s
    → Reaches policy p t s j (outcome s (part_of h)) x
part-reaches policy p t s shape.Array j x is b few low lt room = (is, (b, few refl, lt, λ _. room))
part-reaches policy p t s shape.Object j x is b few low lt room = (is, (b, low, lt, room))

part-held : (s : Stacks) (h : ContainerKind) (n : ℕ) → StandsInside h s → inside_size h s ≤ n
    → IfOk (outcome s (part_of h)) (λ a. held s a ≤ n)
part-held s shape.Array n b few =
    let same = item-size (reverse s.nest.items) s.items.items s.members.items b in omega (arith, few, same)
part-held s shape.Object n b few = few

-- A turn that goes to it proceeds,
pub ready-proceeds : (policy : TextPolicy) (p : Settings) (t : List ℕ) (i l n : ℕ) (x : Reading Tree) (h : ContainerKind)
    (old new : Stacks) (j : ℕ) (r : ℕ × State) → IsReady h old new j r
    → x ≡ part_in policy p t h (reverse old.nest.items) old.items.items old.members.items j → StandsInside h old
    → (h ≡ shape.Array → length old.nest.items ≤ 200) → length old.nest.items ≤ 201 → i ≤ j → j < length t
    → work_left t old j < l → inside_size h old ≤ n → Proceeds policy p t i l n x new r
ready-proceeds policy p t i l n x h old new j r (inl ok) is b few low forward lt less room =
    let same = ok.2 in
    let deep = ap (λ m. length m.items) same.nest in
    let size = same-size h old new same in
    rw ok.0
    (record {
      within = (omega (arith, forward), omega (arith, lt));
      reaches = part-reaches policy p t new h j x (same-part h old new same policy p t j x is)
          (same-stands h old new same b)
          (λ array. let deep_few = few array in omega (arith, deep_few, deep)) (omega (arith, low, deep)) lt ok.1;
      work_left = kept-on new (part_of h) (omega (arith, less, deep));
      held = part-held new h n (same-stands h old new same b) (omega (arith, size, room));
    })
ready-proceeds policy p t i l n x h old new j r (inr bad) is b few low forward lt less room =
    rw bad.0
    (record {
      within = (omega (arith, forward), omega (arith, lt));
      reaches = rw bad.2 tt;
      work_left = tt;
      held = tt;
    })

-- keeps the keys,
pub ready-keys : (h : ContainerKind) (old new : Stacks) (j : ℕ) (r : ℕ × State) (ms : List Member)
    → IsReady h old new j r → LeavesKeys ms old.members.items → OnOk (outcome new r.1) (LeavesKeys ms new.members.items)
ready-keys h old new j r ms (inl ok) keys =
    rw ok.0 (kept-on new (part_of h) (subst (LeavesKeys ms) (sym ok.2.members) keys))
ready-keys h old new j r ms (inr bad) keys = rw bad.0 tt

-- and may have asked for memory.
part-asks : (s : Stacks) (h : ContainerKind) (P : Type 0) → WhereRefused (outcome s (part_of h)) P
part-asks s shape.Array P = tt
part-asks s shape.Object P = tt

pub ready-memory : (h : ContainerKind) (old new : Stacks) (j : ℕ) (r : ℕ × State) (P : Type 0)
    → IsReady h old new j r → P → WhereRefused (outcome new r.1) P
ready-memory h old new j r P (inl ok) may = rw ok.0 (part-asks new h P)
ready-memory h old new j r P (inr bad) may = rw bad.0 (refused-any State new.error P may)

-- the stacks with other open containers
abbrev pub with_nest : Stacks → SmallVec OpenContainer → Stacks
with_nest s n = record
    { items = s.items; members = s.members; nest = n; root = s.root; error = s.error; reused = s.reused }

-- above its own base a container that begins has no part, and below it is what was there
no-parts : (s : Stacks) (h : ContainerKind) → parts_above h (base_of h s) s.items.items s.members.items ≡ []
no-parts s shape.Array = ap (map view) (drop_all (length s.items.items) s.items.items (omega arith))
no-parts s shape.Object = ap (map member_view) (drop_all (length s.members.items) s.members.items (omega arith))

abbrev opened : Stacks → Slot → ContainerKind → OpenContainer
opened s a h = record { outer = a; base = base_of h s }

same-below : (s : Stacks) (a : Slot) (h : ContainerKind)
    → frames_below h (opened s a h) (reverse s.nest.items) s.items.items s.members.items
    ≡ frames a (reverse s.nest.items) s.items.items s.members.items
same-below s a shape.Array = rw (take_all (length s.items.items) s.items.items (omega arith)) refl
same-below s a shape.Object = rw (take_all (length s.members.items) s.members.items (omega arith)) refl

base-above : (s : Stacks) (a : Slot) (h : ContainerKind) → Stands s a
    → HavePartBase h (opened s a h ∷ reverse s.nest.items) (length s.items.items) (length s.members.items)
base-above s a shape.Array b = (omega arith, b)
base-above s a shape.Object b = (omega arith, b)

turned : (s : Stacks) (a : Slot) (h : ContainerKind) (n : SmallVec OpenContainer) → n.items ≡ s.nest.items ++ opened s a h ∷ []
    → reverse n.items ≡ opened s a h ∷ reverse s.nest.items
turned s a h n pushed = ap reverse pushed ∙ reverse-append s.nest.items (opened s a h ∷ [])

none-size : (h : ContainerKind) (n : ℕ) → suc (parts_size h []) + n ≡ n + 1
none-size shape.Array n = omega arith
none-size shape.Object n = omega arith

opened-size : (s : Stacks) (a : Slot) (h : ContainerKind) (n : SmallVec OpenContainer)
    → n.items ≡ s.nest.items ++ opened s a h ∷ [] → inside_size h (with_nest s n) ≡ value_size s a + 1
opened-size s a h n pushed =
    ap (λ os. inside_size_in h os s.items.items s.members.items) (turned s a h n pushed)
    ∙ ap₂ (λ xs fs. suc (parts_size h xs) + frames_size fs) (no-parts s h) (same-below s a h)
    ∙ none-size h (value_size s a)

module _ (policy : TextPolicy) (p : Settings) (t : List ℕ) (s : Stacks) (a : Slot) (b : Stands s a)
    (few : length s.nest.items ≤ 200)
    (i : ℕ) where
  -- a container begins with a part
  opens : (h : ContainerKind) (j : ℕ) → j < length t → start_of (slice_index t i) ≡ opening h
      → step t (container_first h) (i + 1) ≡ more j
      → from_value policy p t s a i
      ≡ part_in policy p t h (opened s a h ∷ reverse s.nest.items) s.items.items s.members.items j
  opens h j lt starts is =
      let os = reverse s.nest.items in
      begins policy p t s a b few i h (more j) starts (ap (resolve_step (forgives p.mode)) is)
      ∙ ap₂ (λ fs xs. resume (rules_as policy p) t fs (parts_from (rules_as policy p) t
      (container_of policy p t h (length fs)) xs j))
      (sym (same-below s a h)) (sym (no-parts s h))
      ∙ next-part policy p t h (opened s a h) os s.items.items s.members.items j lt

  -- and is open
  pub shape-opens : (h : ContainerKind) (j : ℕ) (n : SmallVec OpenContainer) → n.items ≡ s.nest.items ++ opened s a h ∷ []
      → i < j → j < length t → start_of (slice_index t i) ≡ opening h
      → step t (container_first h) (i + 1) ≡ more j → (h ≡ shape.Array → length s.nest.items ≢ 200)
      → (new : Stacks) (r : ℕ × State) → IsReady h (with_nest s n) new j r
      → Proceeds policy p t i (work_left t s i) (value_size s a + 1) (from_value policy p t s a i) new r
  shape-opens h j n pushed ahead lt starts is some new r ready =
      let es = s.items.items in
      let ms = s.members.items in
      let nest = turned s a h n pushed in
      let longer = ap length pushed ∙ length-append s.nest.items (opened s a h ∷ []) in
      let counts = opened-size s a h n pushed in
      ready-proceeds policy p t i (work_left t s i) (value_size s a + 1) (from_value policy p t s a i) h (with_nest s n) new j r
      ready
      (opens h j lt starts is ∙ ap (λ qs. part_in policy p t h qs es ms j) (sym nest))
      (subst (λ qs. HavePartBase h qs (length es) (length ms)) (sym nest) (base-above s a h b))
      (λ array. let full = some array in omega (arith, few, full, longer)) (omega (arith, few, longer))
      (omega (arith, ahead)) lt (omega (arith, ahead, lt, longer)) (omega (arith, counts))

  -- an array is too deep
  pub array-too-deep : (j : ℕ) → length s.nest.items ≡ 200 → j < length t
      → start_of (slice_index t i) ≡ start.Array → step t array_first (i + 1) ≡ more j
      → from_value policy p t s a i ≡ fault recursion_limit j j
  array-too-deep j full lt starts is =
      opens shape.Array j lt starts is
      ∙ limit-reached policy p t slot.Item (opened s a shape.Array ∷ reverse s.nest.items) s.items.items s.members.items j
      (base-above s a shape.Array b) (omega (arith, full, length-reverse s.nest.items))

pub not-root : (h : ContainerKind) → slot_in h ≡ slot.Root → ⊥
not-root shape.Array h = cc
not-root shape.Object h = cc

-- A container with a part may want memory.
pub begins-grows : (t : List ℕ) (i : ℕ) (h : ContainerKind) (j : ℕ) → start_of (slice_index t i) ≡ opening h
    → step t (container_first h) (i + 1) ≡ more j → MayGrowAt t i
begins-grows t i shape.Array j starts is = subst (MayGrowAs t i) (sym starts) (subst LeadsOn (sym is) tt)
begins-grows t i shape.Object j starts is = subst (MayGrowAs t i) (sym starts) (subst LeadsOn (sym is) tt)
