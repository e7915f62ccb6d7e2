-- One tree goes on where another stopped, as a longer prefix of a document does.
use Rattle.std.specs.Prelude.{◌≡◌, ◌⊎◌, ℕ, ◌≤◌, true, List, ◌++◌}
use Rattle.jiter_steps.specs.Tree.{Text, Tree, string, array, object, Items, no_items, item, Members, no_members}
use Rattle.jiter_steps.specs.Tree.{member}
use Rattle.jiter_steps.specs.Node.{Node, Nodes, no_nodes, node, NodeMembers}
use Rattle.jiter_steps.specs.Node as grammar

-- The first text's characters begin the second's; both are UTF-8, so that their bytes say it. A text with memory of its
-- own goes on as one.
abbrev pub BeginsText : Text → Text → Type 0
BeginsText a b = (rest : List ℕ) × (b.bytes ≡ a.bytes ++ rest) × (a.owned ≡ true → b.owned ≡ true)

-- Strings and containers go on; other scalars are equal, and so is what is before a
-- container's last item or value. Keys are equal.
abbrev mutual
  pub Extends : Tree → Tree → Type 0
  Extends (string a) (string b) = BeginsText a b
  Extends (array vs) (array ws) = ExtendsItems vs ws
  Extends (object ms) (object ns) = ExtendsMembers ms ns
  Extends v w = v ≡ w

  pub ExtendsItems : Items → Items → Type 0
  ExtendsItems no_items ws = Unit {0}
  ExtendsItems (item v vs) no_items = ⊥
  ExtendsItems (item v no_items) (item w ws) = Extends v w
  ExtendsItems (item v (item x vs)) (item w ws) = (v ≡ w) × ExtendsItems (item x vs) ws

  pub ExtendsMembers : Members → Members → Type 0
  ExtendsMembers no_members ns = Unit {0}
  ExtendsMembers (member k v ms) no_members = ⊥
  ExtendsMembers (member k v no_members) (member l w ns) = (k ≡ l) × Extends v w
  ExtendsMembers (member k v (member m x ms)) (member l w ns) = (k ≡ l) × (v ≡ w) × ExtendsMembers (member m x ms) ns

-- No number of a node is cut by k: each is whole before it, or not begun.
abbrev mutual
  pub CutsNoNumber : ℕ → Node → Type 0
  CutsNoNumber k (grammar.literal l b e) = Unit {0}
  CutsNoNumber k (grammar.number b e) = (k ≤ b) ⊎ (e ≤ k)
  CutsNoNumber k (grammar.string ps b e) = Unit {0}
  CutsNoNumber k (grammar.array b e ns) = CutsNoNumberOf k ns
  CutsNoNumber k (grammar.object b e ms) = CutsNoNumberOfMembers k ms

  pub CutsNoNumberOf : ℕ → Nodes → Type 0
  CutsNoNumberOf k no_nodes = Unit {0}
  CutsNoNumberOf k (node n ns) = CutsNoNumber k n × CutsNoNumberOf k ns

  pub CutsNoNumberOfMembers : ℕ → NodeMembers → Type 0
  CutsNoNumberOfMembers k grammar.no_members = Unit {0}
  CutsNoNumberOfMembers k (grammar.member key n ms) = CutsNoNumber k n × CutsNoNumberOfMembers k ms
