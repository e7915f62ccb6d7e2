-- Counting what the machine holds.
use Rattle.jiter_value.proofs.Words.{◌≡◌, suc, ◌+◌, List, [], ◌∷◌, ◌++◌, length, drop, map, refl, ap, arith, reverse}
use Rattle.jiter_value.proofs.Words.{reverse-append, take-append-le, Frame, Text, Tree, text_view, ContainerKind, view}
use Rattle.jiter_value.proofs.Words.{JsonValue, OpenContainer, Member, member_view, frames, PartTree, built, parts_above}
use Rattle.jiter_value.proofs.Words.{frames_below, HaveBases, HaveKeyBase, slot_in, size, parts_size, frames_size}
use Rattle.jiter_value.proofs.Words.{inside_size_in}
use Rattle.jiter_steps.specs.declared.parse.ContainerKind.TheVariants as shape
use Rattle.jiter_value.specs.declared.parse.stacks.Slot.TheVariants as slot
use Rattle.jiter_value.specs.Size.{items_size, members_size}
use Rattle.jiter_value.specs.Size.{after_size_in}
use Rattle.jiter_value.proofs.StackTurns.{value-frames, above-more}

items_size-push : (xs : List Tree) (x : Tree) → items_size (xs ++ x ∷ []) ≡ items_size xs + size x
items_size-push [] x = omega arith
items_size-push (y ∷ ys) x = let rest = items_size-push ys x in omega arith

members_size-push : (ms : List (Text × Tree)) (m : Text × Tree)
    → members_size (ms ++ m ∷ []) ≡ members_size ms + suc (size m.1)
members_size-push [] m = omega arith
members_size-push (y ∷ ys) m = let rest = members_size-push ys m in omega arith

pub put-item-size : (os : List OpenContainer) (es : List JsonValue) (ms : List Member) (root v : JsonValue)
    → HaveBases slot.Item os (length es) (length ms)
    → after_size_in slot.Item os (es ++ v ∷ []) ms root ≡ frames_size (frames slot.Item os es ms) + size (view v)
put-item-size [] es ms root v h = absurd h
put-item-size (o ∷ os) es ms root v h =
    let grown = items_size-push (map view (drop o.base es)) (view v) in
    rw (above-more view o.base es v h.0, take-append-le o.base es (v ∷ []) h.0) (omega (arith, grown))

pub put-value-size : (os : List OpenContainer) (es : List JsonValue) (before : List Member) (m : Member) (root v : JsonValue)
    → HaveKeyBase os (length es) (length before)
    → after_size_in slot.Member os es (before ++ (m.0, v) ∷ []) root ≡ frames_size
    (frames slot.Member os es (before ++ m ∷ [])) + size (view v)
put-value-size [] es before m root v h = absurd h
put-value-size (o ∷ os) es before m root v h =
    let grown = members_size-push (map member_view (drop o.base before)) (text_view m.0, view v) in
    let was = ap frames_size (value-frames o os es before m h.0) in
    rw (above-more member_view o.base before (m.0, v) h.0, take-append-le o.base before ((m.0, v) ∷ []) h.0)
    (omega (arith, grown, was))

-- a container that ends holds what it held
built-size : (h : ContainerKind) (xs : List (PartTree h)) → size (built h xs) ≡ suc (parts_size h xs)
built-size shape.Array xs = refl
built-size shape.Object xs = refl

pub container-size : (h : ContainerKind) (nest init : List OpenContainer) (o : OpenContainer) (es : List JsonValue) (ms : List Member)
    (fs : List (Frame Text Tree)) (x : Tree)
    → nest ≡ init ++ o ∷ [] → fs ≡ frames_below h o (reverse init) es ms → x ≡ built h (parts_above h o.base es ms)
    → inside_size_in h (reverse nest) es ms ≡ frames_size fs + size x
container-size h nest init o es ms fs x is below policy =
    let counts = built-size h (parts_above h o.base es ms) in
    rw (is, reverse-append init (o ∷ []), below, policy) (omega (arith, counts))

-- a container after a value holds what it holds where it awaits none
pub after-part-size : (h : ContainerKind) (os : List OpenContainer) (es : List JsonValue) (ms : List Member) (root : JsonValue)
    → HaveBases (slot_in h) os (length es) (length ms)
    → after_size_in (slot_in h) os es ms root ≡ inside_size_in h os es ms
after-part-size shape.Array [] es ms root b = absurd b
after-part-size shape.Array (o ∷ os) es ms root b = refl
after-part-size shape.Object [] es ms root b = absurd b
after-part-size shape.Object (o ∷ os) es ms root b = refl

pub item-size : (os : List OpenContainer) (es : List JsonValue) (ms : List Member)
    → HaveBases slot.Item os (length es) (length ms)
    → inside_size_in shape.Array os es ms ≡ frames_size (frames slot.Item os es ms)
item-size [] es ms b = absurd b
item-size (o ∷ os) es ms b = refl

-- a key that awaits its value counts one
pub key-size : (os : List OpenContainer) (es : List JsonValue) (before : List Member) (m : Member)
    → HaveKeyBase os (length es) (length before)
    → frames_size (frames slot.Member os es (before ++ m ∷ [])) ≡ inside_size_in shape.Object os es before + 1
key-size [] es before m h = absurd h
key-size (o ∷ os) es before m h =
    let was = ap frames_size (value-frames o os es before m h.0) in omega (arith, was)
