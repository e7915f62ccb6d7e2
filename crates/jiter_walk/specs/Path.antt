-- The path to a value of a document, as a JSON Pointer (RFC 6901): a slash and a token for each step.
use Rattle.std.specs.Prelude.{ℕ, ◌+◌, ◌&&◌, Bool, if◌then◌else◌, List, [], ◌∷◌, ◌++◌, nat_le, nat_lt}
use Rattle.std.specs.Fmt.{decimal}
use Rattle.jiter.specs.Caller.{Node, NodeMembers, Nodes, begin, end}
use Rattle.jiter_value.specs.Pointer.{token_of}
use Rattle.jiter_walk.specs.Walk.{key_text}

-- the byte at i is one of those from b to before e
abbrev pub holds : ℕ → ℕ → ℕ → Bool
holds i b e = nat_le b i && nat_lt i e

-- an item by its number, from 0 (RFC 6901, 4)
abbrev pub item_token : ℕ → List ℕ
item_token k = 47 ∷ decimal k

-- a member by its decoded key, with `~0` for `~` and `~1` for `/` (RFC 6901, 3)
abbrev pub key_token : List ℕ → List ℕ
key_token name = 47 ∷ token_of name

-- The path from a value to the innermost value in it that holds the byte at i; none, where that is the value itself.
-- A member begins with its key.
abbrev mutual
  pub path_in : List ℕ → ℕ → Node → List ℕ
  path_in t i (Node.array b e ns) = path_in_items t i 0 ns
  path_in t i (Node.object b e ms) = path_in_members t i ms
  path_in t i n = []

  -- into items, of which the first has the number k
  pub path_in_items : List ℕ → ℕ → ℕ → Nodes → List ℕ
  path_in_items t i k Nodes.no_nodes = []
  path_in_items t i k (Nodes.node n ns) =
      if holds i (begin n) (end n) then item_token k ++ path_in t i n else path_in_items t i (k + 1) ns

  pub path_in_members : List ℕ → ℕ → NodeMembers → List ℕ
  path_in_members t i NodeMembers.no_members = []
  path_in_members t i (NodeMembers.member k n ms) =
      if holds i k.begin (end n) then key_token (key_text t k) ++ path_in t i n else path_in_members t i ms
