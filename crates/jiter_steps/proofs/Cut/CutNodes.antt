-- What a cut leaves of a node that k falls into, and of the parts of a container: the cuts that there are, as a list.
use Rattle.jiter_steps.proofs.Words.{◌≡◌, ℕ, ◌<◌, ◌≤◌, Bool, min, Option, Some, None, List, [], ◌∷◌, refl, ap, ap₂, ◌∙◌}
use Rattle.jiter_steps.proofs.Words.{arith, nat_le, map, sym, if◌then◌else◌, slice_range, cons_option, option_map}
use Rattle.jiter_steps.proofs.Words.{le-leb, lt-leb, allows_trailing_strings, PartialMode, if_case, if-true, if-false}
use Rattle.jiter_steps.proofs.Words.{cut_number, cut_string, literal_tree, Key, Node, Nodes, no_nodes, node}
use Rattle.jiter_steps.proofs.Words.{NodeMembers, no_members, member, begin, end, text_at, value_of, values_of}
use Rattle.jiter_steps.proofs.Words.{Piece, Text, Tree, items_of, members_of, Literal}
use Rattle.std.specs.List.{filter_map}
use Rattle.jiter_steps.specs.Cut.{cut, cut_items, cut_members, with_item, with_member}
use Rattle.jiter_steps.specs.Node as grammar
use Rattle.jiter_steps.specs.Tree as tree
use Rattle.jiter_steps.proofs.Grammar.Documents.{key_text, values-of, members-of}
use Rattle.jiter_steps.proofs.Reading.Fused.{pairs}
use Rattle.jiter_steps.proofs.Grammar.SpelledParts.{nodes_list, members_list, nodes-listed, members-listed, InOrder}
use Rattle.jiter_steps.proofs.Grammar.SpelledParts.{node-ahead}

-- the values of all items, and all members
pub values-listed : (t : List ℕ) (ns : Nodes) → items_of (map (value_of t) (nodes_list ns)) ≡ values_of t ns
values-listed t ns = sym (values-of t (nodes_list ns)) ∙ ap (values_of t) (nodes-listed ns)

pub member_values-listed : (t : List ℕ) (ms : NodeMembers)
    → members_of (pairs (key_text t) (value_of t) (members_list ms)) ≡ grammar.members_of t ms
member_values-listed t ms = sym (members-of t (members_list ms)) ∙ ap (grammar.members_of t) (members-listed ms)

-- what a node that is begun by k leaves
pub begun : (b k : ℕ) (x : Option Tree) → b < k → (if nat_le k b then None else x) ≡ x
begun b k x h = if-false (nat_le k b) None x (lt-leb k b h)

-- A part of a container is seen by its value: as it is, or with its key.
abbrev pub item_seen : Node → Tree → Tree
item_seen n v = v

abbrev pub member_seen : List ℕ → Key × Node → Tree → Text × Tree
member_seen t m v = (key_text t m.0, v)

with-item : (o : Option Tree) (vs : List Tree)
    → with_item o (items_of vs) ≡ items_of (cons_option (option_map (λ v. v) o) vs)
with-item None vs = refl
with-item (Some v) vs = refl

with-member : (key : Text) (o : Option Tree) (ms : List (Text × Tree))
    → with_member key o (members_of ms) ≡ members_of (cons_option (option_map (λ v. (key, v)) o) ms)
with-member key None ms = refl
with-member key (Some v) ms = refl

module _ (names : Bool) (t : List ℕ) (k : ℕ) (mode : PartialMode) where
  -- what is left of a part, if its value has a cut, and of parts
  abbrev pub part_left : {P Q : Type 0} → (P → Node) → (P → Tree → Q) → P → Option Q
  part_left value seen p = option_map (seen p) (cut names t (value p) k mode)

  abbrev pub parts_left : {P Q : Type 0} → (P → Node) → (P → Tree → Q) → List P → List Q
  parts_left value seen ps = filter_map (part_left value seen) ps

  abbrev pub items_left : Nodes → List Tree
  items_left ns = parts_left (λ n. n) item_seen (nodes_list ns)

  abbrev pub members_left : NodeMembers → List (Text × Tree)
  members_left ms = parts_left (λ m. m.1) (member_seen t) (members_list ms)

  items-left : (ns : Nodes) → cut_items names t ns k mode ≡ items_of (items_left ns)
  items-left no_nodes = refl
  items-left (node n ns) =
      ap (with_item (cut names t n k mode)) (items-left ns) ∙ with-item (cut names t n k mode) (items_left ns)

  members-left : (ms : NodeMembers) → cut_members names t ms k mode ≡ members_of (members_left ms)
  members-left no_members = refl
  members-left (member key n ms) =
      ap (with_member (key_text t key) (cut names t n k mode)) (members-left ms)
      ∙ with-member (key_text t key) (cut names t n k mode) (members_left ms)

  -- A node that is begun before k and does not end by it.
  pub literal-left : (l : Literal) (b e : ℕ) → k < e → cut names t (grammar.literal l b e) k mode ≡ None
  literal-left l b e gt =
      if_case (λ x. x ≡ None) (nat_le k b) None _ (λ x. refl)
      (λ x. if-false (nat_le e k) (Some (literal_tree l)) None (lt-leb e k gt))

  pub number-left : (b e : ℕ) → b < k → k < e
      → cut names t (grammar.number b e) k mode ≡ cut_number names (slice_range t b k)
  number-left b e lt gt =
      let short : min k e ≡ k = omega arith in
      begun b k _ lt ∙ ap (λ m. cut_number names (slice_range t b m)) short

  -- a string, by whether it is kept
  abbrev pub cut_string_if : List Piece → ℕ → Bool → Option Tree
  cut_string_if ps b keeps = if keeps then Some (cut_string t ps b k) else None

  pub string-left : (ps : List Piece) (b e : ℕ) → b < k → k < e
      → cut names t (grammar.string ps b e) k mode ≡ cut_string_if ps b (allows_trailing_strings mode)
  string-left ps b e lt gt =
      begun b k _ lt ∙ if-false (nat_le e k) (Some (tree.string (text_at t ps b e))) _ (lt-leb e k gt)

  -- a container, by what is left of its parts
  pub array-left : (b e : ℕ) (ns : Nodes) → b < k
      → cut names t (grammar.array b e ns) k mode ≡ Some (tree.array (items_of (items_left ns)))
  array-left b e ns lt = begun b k _ lt ∙ ap (λ x. Some (tree.array x)) (items-left ns)

  pub object-left : (b e : ℕ) (ms : NodeMembers) → b < k
      → cut names t (grammar.object b e ms) k mode ≡ Some (tree.object (members_of (members_left ms)))
  object-left b e ms lt = begun b k _ lt ∙ ap (λ x. Some (tree.object x)) (members-left ms)

  -- What begins after k leaves nothing.
  pub node-late : (n : Node) → k ≤ begin n → cut names t n k mode ≡ None
  node-late (grammar.literal l b e) le = if-true (nat_le k b) None _ (le-leb k b le)
  node-late (grammar.number b e) le = if-true (nat_le k b) None _ (le-leb k b le)
  node-late (grammar.string ps b e) le = if-true (nat_le k b) None _ (le-leb k b le)
  node-late (grammar.array b e ns) le = if-true (nat_le k b) None _ (le-leb k b le)
  node-late (grammar.object b e ms) le = if-true (nat_le k b) None _ (le-leb k b le)

  pub parts-late : {P Q : Type 0} (value : P → Node) (seen : P → Tree → Q) (levels i : ℕ) (ps : List P) (e : ℕ)
      → InOrder names t levels value i ps e → k ≤ i → parts_left value seen ps ≡ []
  parts-late value seen levels i [] e h le = refl
  parts-late value seen levels i (p ∷ ps) e h le =
      let order = node-ahead names t (value p) h.1 in
      ap₂ cons_option (ap (option_map (seen p)) (node-late (value p) (omega (arith, h.0))))
      (parts-late value seen levels (end (value p)) ps e h.3 (omega (arith, h.0)))
