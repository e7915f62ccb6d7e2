-- Documents cut before each of their bytes: what the cut of the node and what the reading of the prefix give.
use Rattle.std.proofs.Common.{◌≡◌, ℕ, ◌-◌, ◌<◌, ◌≤◌, subst, Bool, true, false, List, [], ◌∷◌, ◌++◌, length, refl}
use Rattle.std.proofs.Common.{codes, map, Some, None}
use Rattle.std.specs.Prelude.{take, replicate}
use Rattle.jiter_scan.specs.Kind.{eof_list, eof_object, eof_string, eof_value}
use Rattle.jiter_scan.specs.declared.partial_mode.PartialMode.{PartialMode}
use Rattle.jiter_scan.specs.declared.partial_mode.PartialMode.TheVariants.{On, TrailingStrings}
use Rattle.jiter_steps.specs.declared.parse.Literal.TheVariants as literal
use Rattle.jiter_steps.specs.Tree.{Tree, boolean, float}
use Rattle.jiter_steps.specs.Read.{Reading, done, fault, whole_answer}
use Rattle.jiter_steps.specs.Answer.{answer, partial_answer}
use Rattle.jiter_steps.proofs.Cut.CutLaw.{cut-law}
use Rattle.jiter_steps.proofs.Grammar.Documents.{Fits, answer-sound}
use Rattle.jiter_steps.proofs.Grammar.NodeRules.{nodes}
use Rattle.jiter_steps.specs.Node.{Node, no_nodes, node, no_members, member, value_of, IsDocument}
use Rattle.jiter_steps.specs.Node as grammar
use Rattle.jiter_steps.specs.Cut.{cut}
use Rattle.jiter_steps.specs.Piece.{Piece}
use Rattle.test_laws.proofs.Steps.Trees.{ascii, number, text, word, listed, paired}
use Rattle.jiter_steps.proofs.Computed.{computed_cuts, computed_readings}

-- `[12,"aé",{"k":true}]`
abbrev source : List ℕ
source = codes "[12,\"a" ++ 195 ∷ 169 ∷ codes "\",{\"k\":true}]"

abbrev pub piece : ℕ → ℕ → Piece
piece c e = record { character = c; end = e }

-- its node
abbrev document : Node
document = grammar.array 0 21
    (node (grammar.number 1 3)
    (node (grammar.string (piece 97 6 ∷ piece 233 8 ∷ []) 4 9)
    (node (grammar.object 10 20
    (member (record { pieces = piece 107 13 ∷ []; begin = 11; end = 14 }) (grammar.literal literal.True 15 19)
    no_members))
    no_nodes)))

-- its items, and all of it
abbrev letters : Tree
letters = text (97 ∷ 195 ∷ 169 ∷ [])

abbrev object_k : Tree
object_k = paired ((ascii "k", boolean true) ∷ [])

abbrev whole_value : Tree
whole_value = listed (number 12 ∷ letters ∷ object_k ∷ [])

it_is_read_as_its_node : whole_answer (nodes false) source ≡ done document 21
it_is_read_as_its_node = unfold computed_readings in refl

its_value : value_of source document ≡ whole_value
its_value = unfold computed_readings in refl

-- before its first byte nothing is left, in either mode
nothing_left : map (λ m. cut false source document 0 m) (On ∷ TrailingStrings ∷ []) ≡ None ∷ None ∷ []
nothing_left = unfold computed_cuts in refl

nothing_read : answer false [] ∷ map (λ m. partial_answer false m []) (On ∷ TrailingStrings ∷ [])
    ≡ replicate 3 (fault eof_value 0 0)
nothing_read = unfold computed_readings in refl

-- the place of the cut, and the answer with partial reading off; the items, and where the reading ends, without the
-- open string; and with what there is of it
abbrev cuts : List (ℕ × Reading Tree × List Tree × ℕ × List Tree × ℕ)
cuts =
    (1, fault eof_list 1 1, [], 1, [], 1) ∷
    (2, fault eof_list 2 2, number 1 ∷ [], 2, number 1 ∷ [], 2) ∷
    (3, fault eof_list 3 3, number 12 ∷ [], 3, number 12 ∷ [], 3) ∷
    (4, fault eof_value 4 4, number 12 ∷ [], 4, number 12 ∷ [], 4) ∷
    (5, fault eof_string 5 4, number 12 ∷ [], 4, number 12 ∷ text [] ∷ [], 5) ∷
    (6, fault eof_string 6 4, number 12 ∷ [], 4, number 12 ∷ word "a" ∷ [], 6) ∷
    (7, fault eof_string 7 4, number 12 ∷ [], 4, number 12 ∷ word "a" ∷ [], 7) ∷
    (8, fault eof_string 8 4, number 12 ∷ [], 4, number 12 ∷ letters ∷ [], 8) ∷
    (9, fault eof_list 9 9, number 12 ∷ letters ∷ [], 9, number 12 ∷ letters ∷ [], 9) ∷
    (10, fault eof_value 10 10, number 12 ∷ letters ∷ [], 10, number 12 ∷ letters ∷ [], 10) ∷
    (11, fault eof_object 11 11, number 12 ∷ letters ∷ paired [] ∷ [], 11, number 12 ∷ letters ∷ paired [] ∷ [], 11) ∷
    (12, fault eof_string 12 11, number 12 ∷ letters ∷ paired [] ∷ [], 11, number 12 ∷ letters ∷ paired [] ∷ [], 11) ∷
    (13, fault eof_string 13 11, number 12 ∷ letters ∷ paired [] ∷ [], 11, number 12 ∷ letters ∷ paired [] ∷ [], 11) ∷
    (14, fault eof_object 14 14, number 12 ∷ letters ∷ paired [] ∷ [], 14, number 12 ∷ letters ∷ paired [] ∷ [], 14) ∷
    (15, fault eof_value 15 15, number 12 ∷ letters ∷ paired [] ∷ [], 15, number 12 ∷ letters ∷ paired [] ∷ [], 15) ∷
    (16, fault eof_value 16 15, number 12 ∷ letters ∷ paired [] ∷ [], 15, number 12 ∷ letters ∷ paired [] ∷ [], 15) ∷
    (17, fault eof_value 17 15, number 12 ∷ letters ∷ paired [] ∷ [], 15, number 12 ∷ letters ∷ paired [] ∷ [], 15) ∷
    (18, fault eof_value 18 15, number 12 ∷ letters ∷ paired [] ∷ [], 15, number 12 ∷ letters ∷ paired [] ∷ [], 15) ∷
    (19, fault eof_object 19 19, number 12 ∷ letters ∷ object_k ∷ [], 19, number 12 ∷ letters ∷ object_k ∷ [], 19) ∷
    (20, fault eof_list 20 20, number 12 ∷ letters ∷ object_k ∷ [], 20, number 12 ∷ letters ∷ object_k ∷ [], 20) ∷
    (21, done whole_value 21, number 12 ∷ letters ∷ object_k ∷ [], 21, number 12 ∷ letters ∷ object_k ∷ [], 21) ∷
    []

it_is_cut : map (λ r. map (cut false source document r.0) (On ∷ TrailingStrings ∷ [])) cuts
    ≡ map (λ r. Some (listed r.2) ∷ Some (listed r.4) ∷ []) cuts
it_is_cut = unfold computed_cuts in refl

it_is_read_whole : map (λ r. answer false (take r.0 source)) cuts ≡ map (λ r. r.1) cuts
it_is_read_whole = unfold computed_readings in refl

it_is_read : map (λ r. map (λ m. partial_answer false m (take r.0 source)) (On ∷ TrailingStrings ∷ [])) cuts
    ≡ map (λ r. done (listed r.2) r.3 ∷ done (listed r.4) r.5 ∷ []) cuts
it_is_read = unfold computed_readings in refl

-- By the law, at each place and in each mode: the node is this document's, and the readings above are its cuts.
it_is_a_document : IsDocument false source document
it_is_a_document = (subst (Fits false source) it_is_read_as_its_node (answer-sound false source)).0

it_is_cut_anywhere : (k : ℕ) (mode : PartialMode) → 0 < k → k ≤ 21
    → (v : Tree) × (e : ℕ) × (partial_answer false mode (take k source) ≡ done v e)
    × (cut false source document k mode ≡ Some v)
it_is_cut_anywhere k mode = cut-law false source document k mode it_is_a_document tt

-- Arrays of one number, cut within it and after it, with and without the names NaN and Infinity: the node of a text
-- that is one number between two brackets.
abbrev around_number : List ℕ → Node
around_number t = grammar.array 0 (length t) (node (grammar.number 1 (length t - 1)) no_nodes)

-- the text, whether names are read, the place of the cut, and the items
abbrev numbers : List (List ℕ × Bool × ℕ × List Tree)
numbers =
    (codes "[12]", false, 1, []) ∷
    (codes "[12]", false, 2, number 1 ∷ []) ∷
    (codes "[12]", false, 3, number 12 ∷ []) ∷
    (codes "[1.5]", false, 3, []) ∷
    (codes "[1.5]", false, 4, float (ascii "1.5") ∷ []) ∷
    (codes "[NaN]", true, 3, []) ∷
    (codes "[NaN]", true, 4, float (ascii "NaN") ∷ []) ∷
    (codes "[NaN]", false, 3, []) ∷
    (codes "[NaN]", false, 4, []) ∷
    []

numbers_are_cut : map (λ r. cut r.1 r.0 (around_number r.0) r.2 On) numbers ≡ map (λ r. Some (listed r.3)) numbers
numbers_are_cut = unfold computed_cuts in refl
