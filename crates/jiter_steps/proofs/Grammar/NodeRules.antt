-- The reading that builds the derivation itself.
use Rattle.jiter_steps.proofs.Words.{ℕ, ◌+◌, Bool, List, [], ◌∷◌, true, false, length, None, chars, number_at}
use Rattle.jiter_steps.proofs.Words.{literal_at, whole, string_at, Event, part, over, event_at, Text, Key, Node, Nodes}
use Rattle.jiter_steps.proofs.Words.{no_nodes, node, NodeMembers, no_members, member, Rules, seen_as, nothing_forgiven}
use Rattle.jiter_steps.proofs.Words.{encode_utf8, Piece}
use Rattle.jiter_steps.specs.Node as grammar

-- The pieces of a string that was read, from its characters.
-- where the piece at i of the character c ends
abbrev pub end_of : ℕ → ℕ → Event → ℕ
end_of i c (part bytes true j) = j
end_of i c (part bytes false j) = i + length (encode_utf8 c)
end_of i c (over s) = i

-- the pieces from i on that stand for these characters
abbrev pub pieces_from : List ℕ → ℕ → List ℕ → List Piece
pieces_from t i [] = []
pieces_from t i (c ∷ cs) =
    record { character = c; end = end_of i c (event_at t i) } ∷ pieces_from t (end_of i c (event_at t i)) cs

abbrev pub nodes_of : List Node → Nodes
nodes_of [] = no_nodes
nodes_of (n ∷ ns) = node n (nodes_of ns)

abbrev pub node_members_of : List (Key × Node) → NodeMembers
node_members_of [] = no_members
node_members_of (m ∷ ms) = member m.0 m.1 (node_members_of ms)

abbrev pub key_of : List ℕ → ℕ → Text → ℕ → Key
key_of t i s e = record { pieces = pieces_from t (i + 1) (chars s.bytes); begin = i; end = e }

abbrev pub nodes : Bool → Rules Key Node
nodes names = record {
  forgives = nothing_forgiven;
  literal = λ t l i. seen_as (λ u e. grammar.literal l i e) (literal_at t l i);
  number = λ t i. seen_as (λ n e. grammar.number i e) (number_at names t i);
  text = λ t i. seen_as (λ s e. grammar.string (pieces_from t (i + 1) (chars s.bytes)) i e) (string_at whole t i);
  key = λ t i. seen_as (key_of t i) (string_at whole t i);
  refuses = λ members t i. None;
  array = λ b e items. grammar.array b e (nodes_of items);
  object = λ b e members. grammar.object b e (node_members_of members);
}
