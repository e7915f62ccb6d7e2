-- What is read of an array: its items, each of which is a document on its own; and only of an array.
use Rattle.std.specs.Prelude.{◌≡◌, ℕ, ◌≤◌, ◌↔◌, Bool, List, [], ◌∷◌, ◌++◌, length, slice_range}
use Rattle.jiter.specs.Caller.{IsBlank, IsDocument, Items, Node, Nodes, Spells, begin, end, nesting_limit, value_of, values_of}
use Rattle.jiter_steps.specs.Node.{nesting_of}
use Rattle.json_lines.specs.Items.{Part, item, parts, wrong}

-- the source of each of these values, at its index
abbrev pub sources_of : List ℕ → Nodes → List Part
sources_of t Nodes.no_nodes = []
sources_of t (Nodes.node n ns) = item (begin n) (slice_range t (begin n) (end n)) ∷ sources_of t ns

-- Of a document that is an array, the parts are the sources of its items, in their order.
abbrev pub IsItems : Type 0
IsItems = (names : Bool) (t : List ℕ) (b e : ℕ) (ns : Nodes) → IsDocument names t (Node.array b e ns) → parts t ≡ sources_of t ns

-- an array of these values, with whitespace around it; the nesting of each value is within the limit
pub record IsArrayOf (names : Bool) (t : List ℕ) (values : Items) : Type 0 where
  pub begin : ℕ
  pub end : ℕ
  pub nodes : Nodes
  pub before : IsBlank t 0 begin
  pub spelled : Spells names t (Node.array begin end nodes)
  pub after : IsBlank t end (length t)
  pub limit : nesting_of nodes ≤ nesting_limit
  pub are : values_of t nodes ≡ values

-- each of these parts is an item, whose bytes alone are a document with this value
abbrev pub AreDocuments : Bool → List Part → Items → Type 0
AreDocuments names [] Items.no_items = Unit {0}
AreDocuments names (item i bytes ∷ parts) (Items.item value values) =
    ((n : Node) × IsDocument names bytes n × (value_of bytes n ≡ value)) × AreDocuments names parts values
AreDocuments names parts values = ⊥

-- An input is an array of these values exactly if its parts are items that are documents with these values.
abbrev pub IsItemwise : Type 0
IsItemwise = (names : Bool) (t : List ℕ) (values : Items) → IsArrayOf names t values ↔ AreDocuments names (parts t) values

-- each of these parts is an item with such bytes
abbrev pub AreItems : (List ℕ → Type 0) → List Part → Type 0
AreItems Such [] = Unit {0}
AreItems Such (item i bytes ∷ parts) = Such bytes × AreItems Such parts
AreItems Such (wrong i cause kept ∷ parts) = ⊥

-- An input with no other parts than items, each of which is a document, is an array. So a conversion that takes documents
-- only reports something of every other input.
abbrev pub IsOfArraysOnly : Type 1
IsOfArraysOnly = (Such : List ℕ → Type 0) (names : Bool) (t : List ℕ)
    → ((bytes : List ℕ) → Such bytes → (n : Node) × IsDocument names bytes n) → AreItems Such (parts t)
    → (values : Items) × IsArrayOf names t values

-- the items among these parts
abbrev pub items_among : List Part → List Part
items_among [] = []
items_among (item i bytes ∷ parts) = item i bytes ∷ items_among parts
items_among (wrong i cause kept ∷ parts) = items_among parts

-- The items of a prefix are the first items of the input: more bytes change nothing of what was converted.
abbrev pub IsGrowing : Type 0
IsGrowing = (prefix rest : List ℕ)
    → (more : List Part) × (items_among (parts (prefix ++ rest)) ≡ items_among (parts prefix) ++ more)
