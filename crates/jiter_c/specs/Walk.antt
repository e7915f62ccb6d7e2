-- The table of a document's values, each before its parts, and the texts that its nodes show, in C's memory.
use Rattle.std.specs.Prelude.{◌≡◌, ◌⊎◌, ◌≤◌, ◌<◌, ◌-◌, ◌^◌, ℕ, ℤ, suc, ◌+◌, Bool, true, false, List, [], ◌∷◌, ◌++◌}
use Rattle.std.specs.Prelude.{drop, if◌then◌else◌, length, min, nat_eq}
use Rattle.std.specs.Int.{cast_signed, w64}
use Rattle.jiter_steps.specs.Tree.{Tree, null, boolean, int, big, float, string, array, object}
use Rattle.jiter_steps.specs.Tree.{Items, no_items, item, Members, no_members, member}
use Rattle.jiter_c.specs.Values.{count_items, count_members, value_report}
use Rattle.jiter_c.specs.declared.values.JiterValue.{JiterValue}
use Rattle.jiter_c.specs.declared.walk.JiterNode.{JiterNode}

-- the texts of a value: of its strings, its numbers that are kept by their text, and its keys, one after another
abbrev mutual
  pub texts_of : Tree → List ℕ
  texts_of null = []
  texts_of (boolean b) = []
  texts_of (int z) = []
  texts_of (big s) = s.bytes
  texts_of (float s) = s.bytes
  texts_of (string s) = s.bytes
  texts_of (array is) = item_texts is
  texts_of (object ms) = member_texts ms

  pub item_texts : Items → List ℕ
  item_texts no_items = []
  item_texts (item v is) = texts_of v ++ item_texts is

  -- each key is before the texts of its value
  pub member_texts : Members → List ℕ
  member_texts no_members = []
  member_texts (member k v ms) = k.bytes ++ (texts_of v ++ member_texts ms)

-- the integer of an `int`, the length of another value
abbrev pub number_of : JiterValue → ℤ
number_of r = if nat_eq r.kind 3 then r.integer else cast_signed w64 r.length

-- The node of a value that has `nodes` nodes with its parts. Its texts begin at `at`, its key before it has `key` bytes,
-- and `left` items or members follow it.
abbrev pub node_report : Tree → ℕ → ℕ → ℕ → ℕ → JiterNode
node_report v nodes left at key = record {
  kind = (value_report v).kind;
  truth = if (value_report v).truth then 1 else 0;
  integer = number_of (value_report v);
  next = if nat_eq left 0 then 0 else nodes;
  text = at;
  key_length = key;
}

-- the same, followed by the nodes of its parts
abbrev pub headed : ℕ → ℕ → ℕ → Tree → List JiterNode → List JiterNode
headed at key left v parts = node_report v (suc (length parts)) left at key ∷ parts

-- the nodes of a value's parts; their texts begin at `at`
abbrev mutual
  pub parts_of : ℕ → Tree → List JiterNode
  parts_of at null = []
  parts_of at (boolean b) = []
  parts_of at (int z) = []
  parts_of at (big s) = []
  parts_of at (float s) = []
  parts_of at (string s) = []
  parts_of at (array is) = item_nodes at is
  parts_of at (object ms) = member_nodes at ms

  pub item_nodes : ℕ → Items → List JiterNode
  item_nodes at no_items = []
  item_nodes at (item v is) =
      headed at 0 (count_items is) v (parts_of at v) ++ item_nodes (at + length (texts_of v)) is

  pub member_nodes : ℕ → Members → List JiterNode
  member_nodes at no_members = []
  member_nodes at (member k v ms) =
      headed (at + length k.bytes) (length k.bytes) (count_members ms) v (parts_of (at + length k.bytes) v)
      ++ member_nodes (at + length k.bytes + length (texts_of v)) ms

-- the nodes of a value and of its parts
abbrev pub nodes_of : ℕ → ℕ → ℕ → Tree → List JiterNode
nodes_of at key left v = headed at key left v (parts_of at v)

-- the table of a document
abbrev pub table_of : Tree → List JiterNode
table_of v = nodes_of 0 0 0 v

-- a number as a `size_t`, which is the largest one if it has no other
abbrev pub capped : ℕ → ℕ
capped n = min n (2 ^ 64 - 1)

-- memory that begins with this list; the rest is as it was
abbrev pub laid : {A : Type 0} → List A → List A → List A
laid xs old = xs ++ drop (length xs) old

-- The memory holds the table of this document and its texts. If not, it is too small for one of them, and is as it was.
abbrev pub Lays : Tree → Bool → (old new : List JiterNode) → (before after : List ℕ) → Type 0
Lays v true old new before after = (new ≡ laid (table_of v) old) × (after ≡ laid (texts_of v) before)
    × (length (table_of v) ≤ length old) × (length (texts_of v) ≤ length before)
Lays v false old new before after = (new ≡ old) × (after ≡ before)
    × ((length old < length (table_of v)) ⊎ (length before < length (texts_of v)))
