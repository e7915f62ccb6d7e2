-- What is left of a document when its text ends before the place k. It speaks of a finished derivation, and not of
-- reading.
use Rattle.std.specs.Prelude.{◌≡◌, ◌<◌, ◌≤◌, length, take, ℕ, Bool, Option, Some, None, List, nat_le, min}
use Rattle.std.specs.Prelude.{if◌then◌else◌, slice_range}
use Rattle.jiter_scan.specs.Number.{number_value}
use Rattle.jiter_scan.specs.NumberTests.{is_number_text}
use Rattle.jiter_scan.specs.PartialMode.{allows_trailing_strings}
use Rattle.jiter_scan.specs.declared.partial_mode.PartialMode.{PartialMode}
use Rattle.jiter_steps.specs.Literal.{literal_tree}
use Rattle.jiter_steps.specs.Piece.{Piece, pieces_to}
use Rattle.jiter_steps.specs.Tree.{Text, Tree, Items, Members}
use Rattle.jiter_steps.specs.Tree as tree
use Rattle.jiter_steps.specs.Node.{Node, Nodes, no_nodes, node, NodeMembers, no_members, member, begin, text_at}
use Rattle.jiter_steps.specs.Node.{number_tree, IsContainer, IsDocument}
use Rattle.jiter_steps.specs.Node as grammar

-- these bytes of a number, where they are a number still
abbrev pub cut_number : Bool → List ℕ → Option Tree
cut_number names w = if is_number_text names w then Some (number_tree (number_value w)) else None

-- the pieces before the first that ends after k
abbrev pub cut_string : List ℕ → List Piece → ℕ → ℕ → Tree
cut_string t ps b k = tree.string (text_at t (pieces_to k ps) b k)

abbrev pub with_item : Option Tree → Items → Items
with_item None items = items
with_item (Some v) items = tree.item v items

abbrev pub with_member : Text → Option Tree → Members → Members
with_member key None members = members
with_member key (Some v) members = tree.member key v members

-- A value that is not reached is none. A container keeps the cuts of its items that there are, and the members whose
-- value has one. Of the mode it is asked alone whether cut strings are kept, so `Off` gives what `On` gives.
abbrev mutual
  pub cut : Bool → List ℕ → Node → ℕ → PartialMode → Option Tree
  cut names t (grammar.literal l b e) k mode =
      if nat_le k b then None else (if nat_le e k then Some (literal_tree l) else None)
  cut names t (grammar.number b e) k mode = if nat_le k b then None else cut_number names (slice_range t b (min k e))
  cut names t (grammar.string ps b e) k mode =
      if nat_le k b then None
      else (if nat_le e k then Some (tree.string (text_at t ps b e))
      else (if allows_trailing_strings mode then Some (cut_string t ps b k) else None))
  cut names t (grammar.array b e ns) k mode =
      if nat_le k b then None else Some (tree.array (cut_items names t ns k mode))
  cut names t (grammar.object b e ms) k mode =
      if nat_le k b then None else Some (tree.object (cut_members names t ms k mode))

  pub cut_items : Bool → List ℕ → Nodes → ℕ → PartialMode → Items
  cut_items names t no_nodes k mode = tree.no_items
  cut_items names t (node n ns) k mode = with_item (cut names t n k mode) (cut_items names t ns k mode)

  pub cut_members : Bool → List ℕ → NodeMembers → ℕ → PartialMode → Members
  cut_members names t no_members k mode = tree.no_members
  cut_members names t (member key n ms) k mode =
      with_member (text_at t key.pieces key.begin key.end) (cut names t n k mode) (cut_members names t ms k mode)

-- a prefix of a document that is an array or an object, which ends before a place after the first bracket
pub record IsBegunContainer (names : Bool) (prefix : List ℕ) : Type 0 where
  pub text : List ℕ
  pub node : Node
  pub place : ℕ
  pub document : IsDocument names text node
  pub container : IsContainer node
  pub begun : begin node < place
  pub within : place ≤ length text
  pub is : prefix ≡ take place text
