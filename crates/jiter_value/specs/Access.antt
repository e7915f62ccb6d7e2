-- What lies in a tree: its scalars, its parts, the item at an index, the last member of a name.
use Rattle.std.specs.Prelude.{ℕ, ℤ, zero, suc, Bool, true, false, if◌then◌else◌, List, Option, Some, None}
use Rattle.std.specs.Str.{bytes_eq}
use Rattle.jiter_steps.specs.Tree.{Tree, null, boolean, int, big, float, string, array, object}
use Rattle.jiter_steps.specs.Tree.{Items, no_items, item, Members, no_members, member}

-- it is `null`
abbrev pub is_null_tree : Tree → Bool
is_null_tree null = true
is_null_tree v = false

abbrev pub boolean_in : Tree → Option Bool
boolean_in (boolean b) = Some b
boolean_in v = None

-- an integer that 64 signed bits hold
abbrev pub int_in : Tree → Option ℤ
int_in (int z) = Some z
int_in v = None

-- the source text of a number that is kept by it
abbrev pub number_text_in : Tree → Option (List ℕ)
number_text_in (big s) = Some s.bytes
number_text_in (float s) = Some s.bytes
number_text_in v = None

abbrev pub string_in : Tree → Option (List ℕ)
string_in (string s) = Some s.bytes
string_in v = None

abbrev pub items_in : Tree → Option Items
items_in (array is) = Some is
items_in v = None

abbrev pub members_in : Tree → Option Members
members_in (object ms) = Some ms
members_in v = None

-- the item at an index, from 0
abbrev pub item_of : ℕ → Items → Option Tree
item_of i no_items = None
item_of zero (item v is) = Some v
item_of (suc i) (item v is) = item_of i is

abbrev pub item_at : ℕ → Tree → Option Tree
item_at i (array is) = item_of i is
item_at i v = None

-- the value of the last member whose name passes the test; with none, what those before it gave
abbrev pub last_such : (List ℕ → Bool) → Option Tree → Members → Option Tree
last_such test found no_members = found
last_such test found (member k v ms) = last_such test (if test k.bytes then Some v else found) ms

-- the value of the last member of this name
abbrev pub member_named : List ℕ → Tree → Option Tree
member_named name (object ms) = last_such (λ key. bytes_eq key name) None ms
member_named name v = None
