-- What the two stacks hold, and what the rest of a text completes them to, where each text that is read is made so.
use Rattle.std.specs.Prelude.{◌≡◌, ℕ, ◌-◌, ◌≤◌, ◌<◌, false, List, [], ◌∷◌, length, take, drop, reverse, map}
use Rattle.std.specs.Prelude.{vec_len, vec_capacity, Option, None}
use Rattle.std.specs.declared.alloc.Global.{Global}
use Rattle.std.specs.declared.borrow.CowStr.{CowStr}
use Rattle.jiter_scan.specs.Kind.{Kind, eof_object}
use Rattle.jiter_steps.specs.Tree.{Text, Tree, array, object, items_of, members_of}
use Rattle.jiter_steps.specs.Read.{Reading, done, fault, if_forgiven}
use Rattle.jiter_steps.specs.Step.{end_kind_of}
use Rattle.jiter_steps.specs.StringDecoder.{text_view}
use Rattle.jiter_steps.specs.declared.parse.ContainerKind.{ContainerKind}
use Rattle.jiter_steps.specs.declared.parse.ContainerKind.TheVariants as shape
use Rattle.jiter_steps.specs.Frames.{Frame, items_frame, members_frame, resume, value_from, key_from, items_from}
use Rattle.jiter_steps.specs.Frames.{members_from}
use Rattle.jiter_value.specs.Settings.{TextPolicy, refused_as, rules_as}
use Rattle.jiter_value.specs.Value.{view}
use Rattle.jiter_value.specs.declared.parse.settings.Settings.{Settings}
use Rattle.jiter_value.specs.declared.parse.stacks.OpenContainer.{OpenContainer}
use Rattle.jiter_value.specs.declared.parse.stacks.Slot.{Slot}
use Rattle.jiter_value.specs.declared.parse.stacks.Slot.TheVariants as slot
use Rattle.jiter_value.specs.declared.parse.stacks.Stacks.{Stacks}
use Rattle.jiter_value.specs.declared.parse.stacks.State.{State}
use Rattle.jiter_value.specs.declared.parse.stacks.State.TheVariants as state
use Rattle.jiter_value.specs.declared.value.JsonValue.{JsonValue}
use Rattle.jiter_value.specs.declared.value.JsonValue.TheVariants.{Null}

abbrev pub Member : Type 0
Member = CowStr Global × JsonValue

-- a member, by its key's text and its value's tree
abbrev pub member_view : Member → Text × Tree
member_view m = (text_view m.0, view m.1)

abbrev pub last_key_of : Member → List Member → Text
last_key_of m [] = text_view m.0
last_key_of m (n ∷ ms) = last_key_of n ms

-- the key of the last member
abbrev pub last_key : List Member → Text
last_key [] = record { owned = false; bytes = [] }
last_key (m ∷ ms) = last_key_of m ms

-- the characters of the members' keys
abbrev pub keys_of : List Member → List (List ℕ)
keys_of ms = map (λ m. (text_view m.0).bytes) ms

-- The members that are left have the first of the keys that there were.
pub record LeavesKeys (old new : List Member) : Type 0 where
  pub keys : keys_of new ≡ take (length new) (keys_of old)

-- The members have the first of these keys.
abbrev pub HaveKeys : List (List ℕ) → List Member → Type 0
HaveKeys ks ms = keys_of ms ≡ take (length ms) ks

-- all members but the last
abbrev pub but_last : List Member → List Member
but_last ms = take (length ms - 1) ms

-- Each open container has what is from its base up, the innermost first. In an object that awaits a value the last
-- member has its key alone.
abbrev pub frames : Slot → List OpenContainer → List JsonValue → List Member → List (Frame Text Tree)
frames a [] items members = []
frames slot.Item (o ∷ os) items members =
    items_frame (map view (drop o.base items)) ∷ frames o.outer os (take o.base items) members
frames slot.Member (o ∷ os) items members =
    members_frame (map member_view (but_last (drop o.base members)))
    (last_key (drop o.base members)) ∷ frames o.outer os items (take o.base members)
frames slot.Root (o ∷ os) items members = []

-- What arrays and objects have in common: the tree of a part, and that of a container of these parts,
abbrev pub PartTree : ContainerKind → Type 0
PartTree shape.Array = Tree
PartTree shape.Object = Text × Tree

abbrev pub built : (h : ContainerKind) → List (PartTree h) → Tree
built shape.Array xs = array (items_of xs)
built shape.Object xs = object (members_of xs)

-- the parts that are above a base,
abbrev pub parts_above : (h : ContainerKind) → ℕ → List JsonValue → List Member → List (PartTree h)
parts_above shape.Array n items members = map view (drop n items)
parts_above shape.Object n items members = map member_view (drop n members)

-- and what is below an open container.
abbrev pub frames_below : ContainerKind → OpenContainer → List OpenContainer → List JsonValue → List Member → List (Frame Text Tree)
frames_below shape.Array o os items members = frames o.outer os (take o.base items) members
frames_below shape.Object o os items members = frames o.outer os items (take o.base members)

-- the error of the key at j that the members of the innermost object make
abbrev pub refused_in : TextPolicy → List ℕ → List OpenContainer → List Member → ℕ → Option (Kind × ℕ)
refused_in policy t [] members j = None
refused_in policy t (o ∷ os) members j = refused_as policy (map member_view (drop o.base members)) t j

-- the bases lie within the stacks, and below the outermost there is nothing
abbrev pub HaveBases : Slot → List OpenContainer → ℕ → ℕ → Type 0
HaveBases slot.Root [] n m = (n ≡ 0) × (m ≡ 0)
HaveBases slot.Root (o ∷ os) n m = ⊥
HaveBases slot.Item [] n m = ⊥
HaveBases slot.Item (o ∷ os) n m = (o.base ≤ n) × HaveBases o.outer os o.base m
HaveBases slot.Member [] n m = ⊥
HaveBases slot.Member (o ∷ os) n m = (o.base < m) × HaveBases o.outer os n o.base

-- the same where the innermost is an object that awaits a key
abbrev pub HaveKeyBase : List OpenContainer → ℕ → ℕ → Type 0
HaveKeyBase [] n m = ⊥
HaveKeyBase (o ∷ os) n m = (o.base ≤ m) × HaveBases o.outer os n o.base

-- the same where the innermost is of this shape, and awaits no value
abbrev pub HavePartBase : ContainerKind → List OpenContainer → ℕ → ℕ → Type 0
HavePartBase shape.Array os n m = HaveBases slot.Item os n m
HavePartBase shape.Object os n m = HaveKeyBase os n m

module _ (policy : TextPolicy) (p : Settings) (t : List ℕ) where
  -- where the innermost object awaits a key at j
  abbrev pub key_in : List OpenContainer → List JsonValue → List Member → ℕ → Reading Tree
  key_in [] items members j = fault eof_object j j
  key_in (o ∷ os) items members j =
      key_from (rules_as policy p) t (frames o.outer os items (take o.base members))
      (map member_view (drop o.base members)) j

  -- where the innermost container has a value that ends at e
  abbrev pub after_in : Slot → List OpenContainer → List JsonValue → List Member → JsonValue → ℕ → Reading Tree
  after_in a [] items members root e = done (view root) e
  after_in slot.Item (o ∷ os) items members root e =
      items_from (rules_as policy p) t (frames o.outer os (take o.base items) members) (map view (drop o.base items)) e
  after_in slot.Member (o ∷ os) items members root e =
      members_from (rules_as policy p) t (frames o.outer os items (take o.base members))
      (map member_view (drop o.base members)) e
  after_in slot.Root (o ∷ os) items members root e = done (view root) e

  -- where the innermost container ends at e
  abbrev pub container_in : ContainerKind → List OpenContainer → List JsonValue → List Member → ℕ → Reading Tree
  container_in h [] items members e = fault (end_kind_of h) e e
  container_in h (o ∷ os) items members e =
      resume (rules_as policy p) t (frames_below h o os items members)
      (done (built h (parts_above h o.base items members)) e)

  -- where an error follows its parts
  abbrev pub container_fault_in : ContainerKind → List OpenContainer → List JsonValue → List Member → Kind → ℕ → ℕ → Reading Tree
  container_fault_in h [] items members k x stop = fault k x stop
  container_fault_in h (o ∷ os) items members k x stop =
      resume (rules_as policy p) t (frames_below h o os items members)
      (if_forgiven (rules_as policy p) (λ e. built h (parts_above h o.base items members)) k x stop)

  -- The same of all that is held.
  abbrev pub resume_with : Stacks → Slot → Reading Tree → Reading Tree
  resume_with s a x = resume (rules_as policy p) t (frames a (reverse s.nest.items) s.items.items s.members.items) x

  abbrev pub from_value : Stacks → Slot → ℕ → Reading Tree
  from_value s a j = value_from (rules_as policy p) t (frames a (reverse s.nest.items) s.items.items s.members.items) j

  abbrev pub from_key : Stacks → ℕ → Reading Tree
  from_key s j = key_in (reverse s.nest.items) s.items.items s.members.items j

  abbrev pub after : Stacks → Slot → ℕ → Reading Tree
  after s a e = after_in a (reverse s.nest.items) s.items.items s.members.items s.root e

  abbrev pub container_ends : ContainerKind → Stacks → ℕ → Reading Tree
  container_ends h s e = container_in h (reverse s.nest.items) s.items.items s.members.items e

  abbrev pub container_fault : ContainerKind → Stacks → Kind → ℕ → ℕ → Reading Tree
  container_fault h s k x stop = container_fault_in h (reverse s.nest.items) s.items.items s.members.items k x stop

  -- What the rest of the text completes the machine to.
  abbrev pub denotes : Stacks → State → ℕ → Reading Tree
  denotes s state.Root j = from_value s slot.Root j
  denotes s state.Item j = from_value s slot.Item j
  denotes s state.Member j = from_value s slot.Member j
  denotes s state.Key j = from_key s j
  denotes s state.Done j = done (view s.root) j
  denotes s state.GivenUp j = done (view s.root) j

abbrev pub Stands : Stacks → Slot → Type 0
Stands s a = HaveBases a (reverse s.nest.items) (length s.items.items) (length s.members.items)

abbrev pub StandsAtKey : Stacks → Type 0
StandsAtKey s = HaveKeyBase (reverse s.nest.items) (length s.items.items) (length s.members.items)

-- the same stacks with no value beside them
abbrev pub without_root : Stacks → Stacks
without_root s = record s { root = Null }

-- the innermost container is of this shape, and awaits no value
abbrev pub StandsInside : ContainerKind → Stacks → Type 0
StandsInside h s = HavePartBase h (reverse s.nest.items) (length s.items.items) (length s.members.items)

-- the key at j is not refused for the members before it
abbrev pub IsFree : TextPolicy → List ℕ → Stacks → ℕ → Type 0
IsFree policy t s j = refused_in policy t (reverse s.nest.items) s.members.items j ≡ None

-- where a value of a container goes, and what is awaited where a part of it begins
abbrev pub slot_in : ContainerKind → Slot
slot_in shape.Array = slot.Item
slot_in shape.Object = slot.Member

abbrev pub part_of : ContainerKind → State
part_of shape.Array = state.Item
part_of shape.Object = state.Key

-- where the value goes that a state awaits
abbrev pub slot_of : State → Slot
slot_of state.Item = slot.Item
slot_of state.Member = slot.Member
slot_of _ = slot.Root

-- how many parts lie below those of a container that begins
abbrev pub base_of : ContainerKind → Stacks → ℕ
base_of shape.Array s = length s.items.items
base_of shape.Object s = length s.members.items

-- its tree where it has no part
abbrev pub empty_tree : ContainerKind → Tree
empty_tree shape.Array = array (items_of [])
empty_tree shape.Object = object (members_of [])

-- the same parts, open containers and value, perhaps with more capacity
pub record HoldsSame (old new : Stacks) : Type 0 where
  pub items : new.items.items ≡ old.items.items
  pub members : new.members.items ≡ old.members.items
  pub nest : new.nest ≡ old.nest
  pub root : new.root ≡ old.root

-- one more part of such a container can be pushed without a request for memory
abbrev pub HasRoomIn : ContainerKind → Stacks → Type 0
HasRoomIn shape.Array s = vec_len s.items < vec_capacity s.items
HasRoomIn shape.Object s = vec_len s.members < vec_capacity s.members

-- and so can a value that is awaited go where it belongs
abbrev pub HasRoom : Stacks → Slot → Type 0
HasRoom s a = a ≡ slot.Item → HasRoomIn shape.Array s
