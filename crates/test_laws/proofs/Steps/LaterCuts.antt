-- Trees that go on where others stopped, and trees that do not.
use Rattle.std.proofs.Common.{◌≡◌, ℕ, inl, inr, arith, true, false, List, [], ◌∷◌, refl, ap, codes, map, Some}
use Rattle.jiter_scan.specs.declared.partial_mode.PartialMode.TheVariants.{TrailingStrings}
use Rattle.jiter_steps.specs.Cut.{cut}
use Rattle.jiter_steps.specs.Extends.{Extends, CutsNoNumber}
use Rattle.jiter_steps.specs.Node.{no_nodes, node}
use Rattle.jiter_steps.specs.Node as grammar
use Rattle.jiter_steps.specs.Tree.{Text, Tree, null}
use Rattle.jiter_steps.proofs.Computed.{computed_cuts}
use Rattle.test_laws.proofs.Steps.Cuts.{piece}
use Rattle.test_laws.proofs.Steps.Trees.{ascii, borrowed, owned, number, text, word, own_text, listed, paired}

a_text_goes_on : Extends (word "a") (word "ab")
a_text_goes_on = (codes "b", refl, λ own. own)

the_last_item_goes_on : Extends (listed (number 1 ∷ word "a" ∷ [])) (listed (number 1 ∷ word "ab" ∷ []))
the_last_item_goes_on = (refl, (codes "b", refl, λ own. own))

an_item_comes : Extends (listed (number 12 ∷ [])) (listed (number 12 ∷ number 3 ∷ []))
an_item_comes = refl

nothing_comes : Extends (listed (number 1 ∷ [])) (listed (number 1 ∷ []))
nothing_comes = refl

a_first_item_comes : Extends (listed []) (listed (number 1 ∷ []))
a_first_item_comes = tt

-- one member more, and a value that went on
abbrev two_members : Tree
two_members = paired ((ascii "a", number 1) ∷ (ascii "b", listed []) ∷ [])

abbrev three_members : Tree
three_members = paired ((ascii "a", number 1) ∷ (ascii "b", listed (null ∷ [])) ∷ (ascii "c", null) ∷ [])

a_value_goes_on_and_a_member_comes : Extends two_members three_members
a_value_goes_on_and_a_member_comes = (refl, refl, (refl, tt))

a_text_gets_memory_of_its_own : Extends (word "a") (own_text (codes "ab"))
a_text_gets_memory_of_its_own = (codes "b", refl, λ own. refl)

a_last_item_stays_itself : Extends (listed (number 1 ∷ [])) (listed (number 2 ∷ [])) → ⊥
a_last_item_stays_itself h = cc

-- a number cut short: no growth is promised there
an_item_goes : Extends (listed (number 12 ∷ [])) (listed []) → ⊥
an_item_goes = λ h. h

-- `[12.5]` before its point and `[12,3]` before its comma
a_number_is_cut : CutsNoNumber 3 (grammar.array 0 6 (node (grammar.number 1 5) no_nodes)) → ⊥
a_number_is_cut (inl unread, rest) = omega arith
a_number_is_cut (inr whole, rest) = omega arith

no_number_is_cut : CutsNoNumber 3 (grammar.array 0 6 (node (grammar.number 1 3) (node (grammar.number 4 5) no_nodes)))
no_number_is_cut = (inr (omega arith), (inl (omega arith), tt))

-- The mark of the text that goes on may change, since a later cut may show its first backslash: `["\n"]` cut after the
-- quote, the backslash and the letter.
a_backslash_comes :
    map (λ k. cut false (codes "[\"\\n\"]") (grammar.array 0 6 (node (grammar.string (piece 10 4 ∷ []) 1 5) no_nodes)) k
    TrailingStrings) (2 ∷ 3 ∷ 4 ∷ [])
    ≡ Some (listed (text [] ∷ [])) ∷ Some (listed (own_text [] ∷ [])) ∷ Some (listed (own_text (codes "\n") ∷ [])) ∷ []
a_backslash_comes = unfold computed_cuts in refl

the_mark_goes_on : Extends (listed (text [] ∷ [])) (listed (own_text [] ∷ []))
the_mark_goes_on = ([], refl, λ own. refl)

a_text_keeps_its_own_memory : Extends (own_text []) (text []) → ⊥
a_text_keeps_its_own_memory h = let own : false ≡ true = h.2 refl in cc

-- No other mark changes: not that of a text with another part after it, and not that of a key.
marks_differ : {v w : List ℕ} → borrowed v ≡ owned w → ⊥
marks_differ e = let marks = ap (λ (x : Text). x.owned) e in cc

an_earlier_mark_stays :
    Extends (listed (word "a" ∷ null ∷ [])) (listed (own_text (codes "a") ∷ null ∷ [])) → ⊥
an_earlier_mark_stays h = let texts : ascii "a" ≡ owned (codes "a") = let same = h.0 in cc in marks_differ texts

the_mark_of_a_key_stays : Extends (paired ((ascii "a", null) ∷ [])) (paired ((owned (codes "a"), null) ∷ [])) → ⊥
the_mark_of_a_key_stays h = marks_differ h.0
