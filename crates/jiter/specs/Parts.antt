-- The parts of an array or an object that comes next: how many, the item with a number, the last member of a name.
use Rattle.std.specs.Prelude.{◌≡◌, ◌≤◌, ℕ, zero, suc, Bool, if◌then◌else◌, List, length, Option, Some, None}
use Rattle.std.specs.Str.{bytes_eq}
use Rattle.jiter_steps.specs.Node.{Node, Nodes, no_nodes, node, NodeMembers, no_members, member, literal, number, string}
use Rattle.jiter_steps.specs.Node.{array, object, begin, Spells, nesting, nesting_limit, text_at}
use Rattle.jiter_steps.specs.StringReading.{Form}
use Rattle.jiter.specs.Cause.{Cause}
use Rattle.jiter.specs.Reader.{ReaderState, refused, value_place, with_position, next, array_read, item_step}
use Rattle.jiter.specs.Reader.{object_read, key_step, skip_read, peek}

-- this node comes next, after whitespace
pub record StandsNext (s : ReaderState) (n : Node) : Type 0 where
  pub place : value_place s ≡ begin n
  pub spelled : Spells s.names s.text n
  pub limit : nesting n ≤ nesting_limit

-- how many items there are, or members
abbrev pub count_items : Nodes → ℕ
count_items no_nodes = 0
count_items (node n ns) = suc (count_items ns)

abbrev pub count_members : NodeMembers → ℕ
count_members no_members = 0
count_members (member k n ms) = suc (count_members ms)

abbrev pub count_parts : Node → ℕ
count_parts (literal l b e) = 0
count_parts (number b e) = 0
count_parts (string ps b e) = 0
count_parts (array b e ns) = count_items ns
count_parts (object b e ms) = count_members ms

-- the item with a number, from 0
abbrev pub numbered : ℕ → Nodes → Option Node
numbered i no_nodes = None
numbered zero (node n ns) = Some n
numbered (suc i) (node n ns) = numbered i ns

-- the value of the last member of this name; with none, what those before gave
abbrev pub last_named : List ℕ → List ℕ → Option Node → NodeMembers → Option Node
last_named t name found no_members = found
last_named t name found (member k n ms) =
    last_named t name (if bytes_eq (text_at t k.pieces k.begin k.end).bytes name then Some n else found) ms

-- where a reader is led, to a part if there is one, else after the container, which ends at e
abbrev pub LedTo : Option Node → ℕ → Bool → ℕ → Type 0
LedTo None e found i = (found ≡ Bool.false) × (i ≡ e)
LedTo (Some n) e found i = (found ≡ Bool.true) × (i ≡ begin n)

-- one of the calls that walk through parts refuses so, and leaves the reader there
pub data Refuses (s : ReaderState) (c : Cause) (x stop : ℕ) : Type 0 where
  at_peek : peek s ≡ refused c x stop → Refuses s c x stop
  at_array : next s (array_read s) ≡ refused c x stop → Refuses s c x stop
  at_item : item_step s ≡ refused c x stop → Refuses s c x stop
  at_object : (f : Form) → next s (object_read f s) ≡ refused c x stop → Refuses s c x stop
  at_key : (f : Form) → key_step f s ≡ refused c x stop → Refuses s c x stop
  at_skip : next s (skip_read s) ≡ refused c x stop → Refuses s c x stop

-- the call that refused, at a place of the bytes that lies no further back
pub record RefusedAfter (s : ReaderState) (c : Cause) (x stop : ℕ) : Type 0 where
  pub place : ℕ
  pub forward : s.position ≤ place
  pub within : place ≤ length s.text
  pub refuses : Refuses (with_position s place) c x stop
