-- What definitions give where no clause leads: of nodes that no text spells, in the mode that is no partial one, and
-- at and past a text's length.
use Rattle.std.proofs.Common.{◌≡◌, false, List, [], ◌∷◌, refl, codes, map, Some, None}
use Rattle.jiter_scan.specs.Kind.{eof_list, eof_object, eof_value, expected_value}
use Rattle.jiter_scan.specs.declared.partial_mode.PartialMode.TheVariants.{Off, On, TrailingStrings}
use Rattle.jiter_steps.specs.declared.parse.Literal.TheVariants as literal
use Rattle.jiter_steps.specs.declared.parse.ContainerKind.TheVariants as shape
use Rattle.jiter_steps.specs.Tree.{null}
use Rattle.jiter_steps.specs.Read.{fault}
use Rattle.jiter_steps.specs.Answer.{answer, read_at, skip_at}
use Rattle.jiter_steps.specs.Node.{Node, no_nodes, node}
use Rattle.jiter_steps.specs.Node as grammar
use Rattle.jiter_steps.specs.Cut.{cut}
use Rattle.jiter_steps.specs.Piece.{pieces_to}
use Rattle.jiter_steps.specs.Skip.{first_inside, next_inside}
use Rattle.test_laws.proofs.Steps.Cuts.{piece}
use Rattle.test_laws.proofs.Steps.Trees.{listed, word}
use Rattle.jiter_steps.proofs.Computed.{computed_cuts, computed_readings}

-- A literal, a number and a string of no bytes are not reached by a cut at their place, as no other node is. After it
-- the literal and the string are whole, and no bytes are no number.
abbrev empty_nodes : List Node
empty_nodes = grammar.literal literal.Null 2 2 ∷ grammar.number 2 2 ∷ grammar.string [] 2 2 ∷ []

empty_nodes_are_cut : map (λ k. map (λ n. cut false (codes "[1]") n k On) empty_nodes) (2 ∷ 3 ∷ [])
    ≡ (None ∷ None ∷ None ∷ []) ∷ (Some null ∷ None ∷ Some (word "") ∷ []) ∷ []
empty_nodes_are_cut = unfold computed_cuts in refl

-- Of pieces out of order those before the first that ends after the place are left, not all that end before it.
pieces_out_of_order : map (λ k. pieces_to k (piece 97 3 ∷ piece 98 5 ∷ piece 99 4 ∷ [])) (3 ∷ 4 ∷ 5 ∷ [])
    ≡ (piece 97 3 ∷ []) ∷ (piece 97 3 ∷ []) ∷ (piece 97 3 ∷ piece 98 5 ∷ piece 99 4 ∷ []) ∷ []
pieces_out_of_order = refl

-- With partial reading off a cut string is not kept.
cut_in_each_mode : map (cut false (codes "[\"a\"]")
    (grammar.array 0 5 (node (grammar.string (piece 97 3 ∷ []) 1 4) no_nodes)) 3) (Off ∷ On ∷ TrailingStrings ∷ [])
    ≡ Some (listed []) ∷ Some (listed []) ∷ Some (listed (word "a" ∷ [])) ∷ []
cut_in_each_mode = unfold computed_cuts in refl

-- Where no byte is, no value begins. A document tells its end.
no_value_at_the_length :
    (map (read_at false (codes "1")) (1 ∷ 2 ∷ []) ≡ fault expected_value 1 1 ∷ fault expected_value 2 2 ∷ [])
    × (map (skip_at false (codes "1")) (1 ∷ 2 ∷ []) ≡ fault expected_value 1 1 ∷ fault expected_value 2 2 ∷ [])
    × (answer false [] ≡ fault eof_value 0 0)
no_value_at_the_length = unfold computed_readings in (refl, refl, refl)

-- Where no bracket is, the end of input is found after it, past the length. After a part it is found there.
no_bracket_at_the_length :
    (map (first_inside shape.Array (codes "[")) (0 ∷ 1 ∷ 2 ∷ [])
    ≡ fault eof_list 1 1 ∷ fault eof_list 2 2 ∷ fault eof_list 3 3 ∷ [])
    × (map (next_inside shape.Object (codes "{")) (1 ∷ 2 ∷ []) ≡ fault eof_object 1 1 ∷ fault eof_object 2 2 ∷ [])
no_bracket_at_the_length = unfold computed_readings in (refl, refl)
