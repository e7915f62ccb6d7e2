-- The search in a container for the part that holds a byte: what is kept of it while the parts are passed.
use Rattle.std.specs.Prelude.{ℕ, ◌+◌, ◌-◌, ◌^◌, Bool, if◌then◌else◌, List, min, Option, Some, None, option_map, string_bytes}
use Rattle.jiter.specs.Caller.{Node, NodeMembers, Nodes, begin, end}
use Rattle.jiter_walk.specs.declared.path.Part.{Part}
use Rattle.jiter_walk.specs.declared.path.Search.{Search}
use Rattle.jiter_walk.specs.Path.{holds, item_token, key_token}
use Rattle.jiter_walk.specs.Walk.{Outcome, gives, key_text}

-- a part: its step in the path, and where its value begins
abbrev pub part_view : Part → List ℕ × ℕ
part_view p = (string_bytes p.step, p.begin)

-- the index, how many items were passed, and the part that holds the index
pub record Sought : Type 0 where
  pub index : ℕ
  pub passed : ℕ
  pub found : Option (List ℕ × ℕ)

abbrev pub sought : Search → Sought
sought s = record { index = s.index; passed = s.passed; found = option_map part_view s.found }

-- what was found before, or else this if it is here
abbrev pub found_if : Option (List ℕ × ℕ) → Bool → List ℕ × ℕ → Option (List ℕ × ℕ)
found_if (Some p) here q = Some p
found_if None here q = if here then Some q else None

-- past a member
abbrev pub member_passed : List ℕ → List ℕ → ℕ → Node → Sought → Outcome (Unit {0}) Sought
member_passed t key at n s = gives (record {
  index = s.index;
  passed = s.passed;
  found = found_if s.found (holds s.index at (end n)) (key_token key, begin n);
})

-- past an item
abbrev pub item_passed : List ℕ → Node → Sought → Outcome (Unit {0}) Sought
item_passed t n s = gives (record {
  index = s.index;
  passed = min (s.passed + 1) (2 ^ 64 - 1);
  found = found_if s.found (holds s.index (begin n) (end n)) (item_token s.passed, begin n);
})

-- the first of these items that holds the byte at i: its step and its value
abbrev pub item_part : ℕ → ℕ → Nodes → Option (List ℕ × Node)
item_part i k Nodes.no_nodes = None
item_part i k (Nodes.node n ns) = if holds i (begin n) (end n) then Some (item_token k, n) else item_part i (k + 1) ns

abbrev pub member_part : List ℕ → ℕ → NodeMembers → Option (List ℕ × Node)
member_part t i NodeMembers.no_members = None
member_part t i (NodeMembers.member k n ms) =
    if holds i k.begin (end n) then Some (key_token (key_text t k), n) else member_part t i ms

-- the part of a value that holds the byte at i
abbrev pub part_of : List ℕ → ℕ → Node → Option (List ℕ × Node)
part_of t i (Node.array b e ns) = item_part i 0 ns
part_of t i (Node.object b e ms) = member_part t i ms
part_of t i n = None

abbrev pub part_begun : List ℕ → ℕ → Node → Option (List ℕ × ℕ)
part_begun t i n = option_map (λ p. (p.0, begin p.1)) (part_of t i n)
