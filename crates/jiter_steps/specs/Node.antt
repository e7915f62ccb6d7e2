-- The grammar of a whole document (RFC 8259, 2 to 5): a text and the nodes that it spells.
use Rattle.std.specs.Prelude.{◌≡◌, ℕ, suc, ◌+◌, ◌≤◌, ◌<◌, take, ◌==◌, max, Bool, false, List, length, slice_get}
use Rattle.std.specs.Prelude.{slice_range, Some}
use Rattle.std.specs.List.{list_any}
use Rattle.jiter_scan.specs.Ascii as ascii
use Rattle.jiter_scan.specs.Stands.{Stands}
use Rattle.jiter_scan.specs.Number.{Number, integer, big, float, IsNumberText, number_value}
use Rattle.jiter_steps.specs.Blank.{IsBlank}
use Rattle.jiter_steps.specs.Literal.{word_of, literal_tree}
use Rattle.jiter_steps.specs.Piece.{Piece, SpellsString, text_of}
use Rattle.jiter_steps.specs.Tree.{Text, Tree, Items, Members}
use Rattle.jiter_steps.specs.Tree as tree
use Rattle.jiter_steps.specs.declared.parse.Literal.{Literal}

-- a key's pieces, and where it begins and ends
pub record Key : Type 0 where
  pub pieces : List Piece
  pub begin : ℕ
  pub end : ℕ

-- a value of a text, with the places where it begins and ends
mutual
  pub data Node : Type 0 where
    literal : Literal → ℕ → ℕ → Node
    number : ℕ → ℕ → Node
    string : List Piece → ℕ → ℕ → Node
    array : ℕ → ℕ → Nodes → Node
    object : ℕ → ℕ → NodeMembers → Node

  pub data Nodes : Type 0 where
    no_nodes : Nodes
    node : Node → Nodes → Nodes

  pub data NodeMembers : Type 0 where
    no_members : NodeMembers
    member : Key → Node → NodeMembers → NodeMembers

abbrev pub begin : Node → ℕ
begin (literal l b e) = b
begin (number b e) = b
begin (string ps b e) = b
begin (array b e ns) = b
begin (object b e ms) = b

abbrev pub end : Node → ℕ
end (literal l b e) = e
end (number b e) = e
end (string ps b e) = e
end (array b e ns) = e
end (object b e ms) = e

-- the byte c is after the whitespace from i on, and e is the place after it
pub record StandsAfter (t : List ℕ) (i c e : ℕ) : Type 0 where
  pub at : ℕ
  pub blanks : IsBlank t i at
  pub here : slice_get t at ≡ Some c
  pub ends : e ≡ at + 1

-- a number's text is from b to before e
pub record SpellsNumber (names : Bool) (t : List ℕ) (b e : ℕ) : Type 0 where
  pub ordered : b ≤ e
  pub within : e ≤ length t
  pub text : IsNumberText names (slice_range t b e)

-- a key, the colon after it, and the place j where a value may begin
pub record SpellsKey (t : List ℕ) (k : Key) (j : ℕ) : Type 0 where
  pub string : SpellsString t k.begin k.pieces k.end
  pub colon : ℕ
  pub after : StandsAfter t k.end ascii.colon colon
  pub blanks : IsBlank t colon j

-- The text spells the node. A number may be a name only where names are allowed.
abbrev mutual
  pub Spells : Bool → List ℕ → Node → Type 0
  Spells names t (literal l b e) = Stands t b e (word_of l)
  Spells names t (number b e) = SpellsNumber names t b e
  Spells names t (string ps b e) = SpellsString t b ps e
  Spells names t (array b e ns) = (slice_get t b ≡ Some ascii.left_bracket) × SpellsItems names t (b + 1) ns e
  Spells names t (object b e ms) = (slice_get t b ≡ Some ascii.left_brace) × SpellsMembers names t (b + 1) ms e

  -- the items and `]`, after `[`
  pub SpellsItems : Bool → List ℕ → ℕ → Nodes → ℕ → Type 0
  SpellsItems names t i no_nodes e = StandsAfter t i ascii.right_bracket e
  SpellsItems names t i (node n ns) e = IsBlank t i (begin n) × Spells names t n × SpellsMoreItems names t (end n) ns e

  -- commas and further items, and `]`, after an item
  pub SpellsMoreItems : Bool → List ℕ → ℕ → Nodes → ℕ → Type 0
  SpellsMoreItems names t i no_nodes e = StandsAfter t i ascii.right_bracket e
  SpellsMoreItems names t i (node n ns) e =
      (c : ℕ) × StandsAfter t i ascii.comma c × IsBlank t c (begin n) × Spells names t n
      × SpellsMoreItems names t (end n) ns e

  -- the members and `}`, after `{`
  pub SpellsMembers : Bool → List ℕ → ℕ → NodeMembers → ℕ → Type 0
  SpellsMembers names t i no_members e = StandsAfter t i ascii.right_brace e
  SpellsMembers names t i (member k n ms) e =
      IsBlank t i k.begin × SpellsKey t k (begin n) × Spells names t n × SpellsMoreMembers names t (end n) ms e

  -- commas and further members, and `}`, after a member
  pub SpellsMoreMembers : Bool → List ℕ → ℕ → NodeMembers → ℕ → Type 0
  SpellsMoreMembers names t i no_members e = StandsAfter t i ascii.right_brace e
  SpellsMoreMembers names t i (member k n ms) e =
      (c : ℕ) × StandsAfter t i ascii.comma c × IsBlank t c k.begin × SpellsKey t k (begin n) × Spells names t n
      × SpellsMoreMembers names t (end n) ms e

-- how deep containers that are not empty are one inside another
abbrev mutual
  pub nesting : Node → ℕ
  nesting (literal l b e) = 0
  nesting (number b e) = 0
  nesting (string ps b e) = 0
  nesting (array b e ns) = nesting_round ns
  nesting (object b e ms) = nesting_round_members ms

  -- of a container with these items
  pub nesting_round : Nodes → ℕ
  nesting_round no_nodes = 0
  nesting_round (node n ns) = suc (max (nesting n) (nesting_of ns))

  pub nesting_of : Nodes → ℕ
  nesting_of no_nodes = 0
  nesting_of (node n ns) = max (nesting n) (nesting_of ns)

  pub nesting_round_members : NodeMembers → ℕ
  nesting_round_members no_members = 0
  nesting_round_members (member k n ms) = suc (max (nesting n) (nesting_of_members ms))

  pub nesting_of_members : NodeMembers → ℕ
  nesting_of_members no_members = 0
  nesting_of_members (member k n ms) = max (nesting n) (nesting_of_members ms)

-- a backslash is between the two places
abbrev pub has_backslash : List ℕ → ℕ → ℕ → Bool
has_backslash t i j = list_any (λ c. c == ascii.backslash) (slice_range t i j)

-- the text of these pieces, whose source lies between the two places: its bytes are the input's own where it has no
-- backslash
abbrev pub text_at : List ℕ → List Piece → ℕ → ℕ → Text
text_at t ps i j = record { owned = has_backslash t i j; bytes = text_of ps }

-- a number's tree; its text is always the input's own
abbrev pub number_tree : Number → Tree
number_tree (integer z) = tree.int z
number_tree (big w) = tree.big (record { owned = false; bytes = w })
number_tree (float w) = tree.float (record { owned = false; bytes = w })

-- What a node of a text stands for. Members keep their order, repeated keys too.
abbrev mutual
  pub value_of : List ℕ → Node → Tree
  value_of t (literal l b e) = literal_tree l
  value_of t (number b e) = number_tree (number_value (slice_range t b e))
  value_of t (string ps b e) = tree.string (text_at t ps b e)
  value_of t (array b e ns) = tree.array (values_of t ns)
  value_of t (object b e ms) = tree.object (members_of t ms)

  pub values_of : List ℕ → Nodes → Items
  values_of t no_nodes = tree.no_items
  values_of t (node n ns) = tree.item (value_of t n) (values_of t ns)

  pub members_of : List ℕ → NodeMembers → Members
  members_of t no_members = tree.no_members
  members_of t (member k n ms) = tree.member (text_at t k.pieces k.begin k.end) (value_of t n) (members_of t ms)

-- how many containers that are not empty may be one inside another
abbrev pub nesting_limit : ℕ
nesting_limit = 200

-- A document: whitespace, a value, whitespace, and a nesting within the limit.
pub record IsDocument (names : Bool) (t : List ℕ) (n : Node) : Type 0 where
  pub before : IsBlank t 0 (begin n)
  pub spelled : Spells names t n
  pub after : IsBlank t (end n) (length t)
  pub limit : nesting n ≤ nesting_limit

-- an array or an object
abbrev pub IsContainer : Node → Type 0
IsContainer (literal l b e) = ⊥
IsContainer (number b e) = ⊥
IsContainer (string ps b e) = ⊥
IsContainer (array b e ns) = Unit {0}
IsContainer (object b e ms) = Unit {0}

-- a prefix of a document that is an array or an object, without its last bracket
pub record IsCutContainer (names : Bool) (prefix : List ℕ) : Type 0 where
  pub text : List ℕ
  pub node : Node
  pub place : ℕ
  pub document : IsDocument names text node
  pub container : IsContainer node
  pub before_end : place < end node
  pub is : prefix ≡ take place text
