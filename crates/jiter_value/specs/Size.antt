-- How many scalars, containers and keys there are, and how much is left to do.
use Rattle.std.specs.Prelude.{ℕ, suc, ◌+◌, ◌*◌, ◌-◌, List, [], ◌∷◌, length, take, drop, reverse, map}
use Rattle.jiter_steps.specs.Tree.{Text, Tree, null, boolean, int, big, float, string, array, object, Items, no_items}
use Rattle.jiter_steps.specs.Tree.{item, Members, no_members, member, items_of, members_of}
use Rattle.jiter_steps.specs.declared.parse.ContainerKind.{ContainerKind}
use Rattle.jiter_steps.specs.declared.parse.ContainerKind.TheVariants as shape
use Rattle.jiter_value.specs.Value.{view}
use Rattle.jiter_value.specs.declared.value.JsonValue.{JsonValue}
use Rattle.jiter_value.specs.declared.parse.stacks.OpenContainer.{OpenContainer}
use Rattle.jiter_value.specs.declared.parse.stacks.Slot.{Slot}
use Rattle.jiter_value.specs.declared.parse.stacks.Slot.TheVariants as slot
use Rattle.jiter_value.specs.declared.parse.stacks.State.{State}
use Rattle.jiter_value.specs.declared.parse.stacks.State.TheVariants as state
use Rattle.jiter_value.specs.declared.parse.stacks.Stacks.{Stacks}
use Rattle.jiter_steps.specs.Frames.{Frame, items_frame, members_frame}
use Rattle.jiter_value.specs.Stacks.{Member, member_view, frames, PartTree, parts_above, frames_below}

abbrev mutual
  pub size : Tree → ℕ
  size null = 1
  size (boolean b) = 1
  size (int z) = 1
  size (big s) = 1
  size (float s) = 1
  size (string s) = 1
  size (array is) = suc (size_items is)
  size (object ms) = suc (size_members ms)

  pub size_items : Items → ℕ
  size_items no_items = 0
  size_items (item t is) = size t + size_items is

  pub size_members : Members → ℕ
  size_members no_members = 0
  size_members (member k t ms) = suc (size t) + size_members ms

abbrev pub items_size : List Tree → ℕ
items_size xs = size_items (items_of xs)

abbrev pub members_size : List (Text × Tree) → ℕ
members_size ms = size_members (members_of ms)

-- open containers and the keys that await a value count too
abbrev pub frames_size : List (Frame Text Tree) → ℕ
frames_size [] = 0
frames_size (items_frame xs ∷ fs) = suc (items_size xs) + frames_size fs
frames_size (members_frame ms k ∷ fs) = suc (suc (members_size ms)) + frames_size fs

abbrev pub parts_size : (h : ContainerKind) → List (PartTree h) → ℕ
parts_size shape.Array xs = items_size xs
parts_size shape.Object xs = members_size xs

-- where the innermost container is of this shape, and awaits no value
abbrev pub inside_size_in : ContainerKind → List OpenContainer → List JsonValue → List Member → ℕ
inside_size_in h [] items members = 0
inside_size_in h (o ∷ os) items members =
    suc (parts_size h (parts_above h o.base items members)) + frames_size (frames_below h o os items members)

abbrev pub after_size_in : Slot → List OpenContainer → List JsonValue → List Member → JsonValue → ℕ
after_size_in a [] items members root = size (view root)
after_size_in slot.Item (o ∷ os) items members root =
    suc (items_size (map view (drop o.base items))) + frames_size (frames o.outer os (take o.base items) members)
after_size_in slot.Member (o ∷ os) items members root =
    suc (members_size (map member_view (drop o.base members))) + frames_size
    (frames o.outer os items (take o.base members))
after_size_in slot.Root (o ∷ os) items members root = size (view root)

-- How many scalars, containers and keys are held, open containers and awaiting keys among them; at the end n.
abbrev pub held_in : State → List OpenContainer → List JsonValue → List Member → ℕ → ℕ
held_in state.Root os items members n = frames_size (frames slot.Root os items members)
held_in state.Item os items members n = frames_size (frames slot.Item os items members)
held_in state.Member os items members n = frames_size (frames slot.Member os items members)
held_in state.Key os items members n = inside_size_in shape.Object os items members
held_in state.Done os items members n = n
held_in state.GivenUp os items members n = n

-- the same of all that is held: where a value is awaited, a key, and after a value
abbrev pub value_size : Stacks → Slot → ℕ
value_size s a = frames_size (frames a (reverse s.nest.items) s.items.items s.members.items)

abbrev pub key_size : Stacks → ℕ
key_size s = inside_size_in shape.Object (reverse s.nest.items) s.items.items s.members.items

abbrev pub after_size : Stacks → Slot → ℕ
after_size s a = after_size_in a (reverse s.nest.items) s.items.items s.members.items s.root

-- the same where the innermost container is of this shape, and awaits no value
abbrev pub inside_size : ContainerKind → Stacks → ℕ
inside_size h s = inside_size_in h (reverse s.nest.items) s.items.items s.members.items

-- the same of the stacks; at the end how many the value has
abbrev pub held : Stacks → State → ℕ
held s a = held_in a (reverse s.nest.items) s.items.items s.members.items (size (view s.root))

-- How much is left to do at j: three for each byte that is left, one for each open container, and one.
abbrev pub left_at : List ℕ → List OpenContainer → ℕ → ℕ
left_at t os j = 3 * (length t - j) + length os + 1
