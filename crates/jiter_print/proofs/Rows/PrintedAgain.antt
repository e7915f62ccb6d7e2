-- What is printed of a value is read as that value again, by computation.
use Rattle.std.proofs.Common.{◌≡◌, ℕ, List, pos, negsuc, true, false, [], ◌∷◌, refl, codes, map}
use Rattle.std.specs.List.{join_with_byte}
use Prim.Native.String.{String}
use Rattle.jiter_steps.specs.Tree.{Text, Tree, null, boolean, int, big, float, string, array, object, items_of}
use Rattle.jiter_steps.specs.Tree.{members_of}
use Rattle.jiter_steps.specs.Read.{done}
use Rattle.jiter_steps.specs.Answer.{answer}
use Rattle.jiter_value.specs.Owned.{owned_tree}
use Rattle.jiter_print.specs.Layout.{pretty_of}
use Rattle.jiter_print.specs.Print.{print_of}
use Rattle.jiter_print.proofs.Rows.Computed.{computed_answers}

abbrev borrowed_text : List ℕ → Text
borrowed_text w = record { owned = false; bytes = w }

abbrev owned_text : List ℕ → Text
owned_text w = record { owned = true; bytes = w }

abbrev big_from : String → Tree
big_from w = big (borrowed_text (codes w))

abbrev float_from : String → Tree
float_from w = float (borrowed_text (codes w))

abbrev borrowed_string : List ℕ → Tree
borrowed_string w = string (borrowed_text w)

abbrev owned_string : List ℕ → Tree
owned_string w = string (owned_text w)

abbrev array_from : List Tree → Tree
array_from vs = array (items_of vs)

abbrev object_from : List (Text × Tree) → Tree
object_from ms = object (members_of ms)

abbrev key : String → Text
key w = borrowed_text (codes w)

-- a value, and how long its print is
abbrev Row : Type 0
Row = Tree × ℕ

abbrev rows : List Row
rows =
    -- literals
    (null, 4) ∷
    (boolean true, 4) ∷
    (boolean false, 5) ∷
    -- integers
    (int (pos 0), 1) ∷
    (int (pos 1), 1) ∷
    (int (negsuc 0), 2) ∷
    (int (pos 10), 2) ∷
    (int (negsuc 9), 3) ∷
    (int (pos 123456789), 9) ∷
    (int (pos 100), 3) ∷
    (int (pos 9223372036854775807), 19) ∷
    (int (negsuc 9223372036854775807), 20) ∷
    (int (pos 12345678901234567), 17) ∷
    -- integers that 64 bits do not hold
    (big_from "9223372036854775808", 19) ∷
    (big_from "-9223372036854775809", 20) ∷
    (big_from "12345678901234567890", 20) ∷
    (big_from "123456789012345678901234567890", 30) ∷
    (big_from "9999999999999999999", 19) ∷
    (big_from "-9999999999999999999", 20) ∷
    (big_from "1111111111111111111111111", 25) ∷
    (big_from "10000000000000000000", 20) ∷
    (big_from "-100000000000000000000", 22) ∷
    (big_from "18446744073709551616", 20) ∷
    -- floats and names
    (float_from "0.5", 3) ∷
    (float_from "2.50", 4) ∷
    (float_from "-0.0", 4) ∷
    (float_from "1e5", 3) ∷
    (float_from "1E+400", 6) ∷
    (float_from "1e-7", 4) ∷
    (float_from "12.5e3", 6) ∷
    (float_from "NaN", 3) ∷
    (float_from "Infinity", 8) ∷
    (float_from "-Infinity", 9) ∷
    -- strings
    (borrowed_string [], 2) ∷
    (borrowed_string (codes "abc"), 5) ∷
    (owned_string (34 ∷ []), 4) ∷
    (owned_string (92 ∷ []), 4) ∷
    (owned_string (10 ∷ []), 8) ∷
    (owned_string (0 ∷ []), 8) ∷
    (owned_string (31 ∷ []), 8) ∷
    (borrowed_string (127 ∷ []), 3) ∷
    (borrowed_string (195 ∷ 169 ∷ []), 4) ∷
    (borrowed_string (240 ∷ 159 ∷ 152 ∷ 128 ∷ []), 6) ∷
    (owned_string (97 ∷ 34 ∷ 98 ∷ 92 ∷ 99 ∷ 9 ∷ 195 ∷ 169 ∷ 47 ∷ []), 18) ∷
    -- arrays
    (array_from [], 2) ∷
    (array_from (null ∷ []), 6) ∷
    (array_from (boolean true ∷ boolean false ∷ []), 12) ∷
    (array_from (array_from (array_from [] ∷ []) ∷ []), 6) ∷
    (array_from (int (pos 1) ∷ borrowed_string (codes "x") ∷ null ∷ float_from "2.50" ∷ []), 17) ∷
    (array_from (borrowed_string [] ∷ borrowed_string [] ∷ []), 7) ∷
    (array_from (array_from (int (pos 1) ∷ []) ∷ array_from (int (pos 2) ∷ []) ∷ array_from [] ∷ []), 12) ∷
    (array_from (object_from ((key "k", boolean true) ∷ []) ∷ []), 12) ∷
    (array_from (owned_string (10 ∷ []) ∷ []), 10) ∷
    (array_from (big_from "9223372036854775808" ∷ int (negsuc 0) ∷ []), 24) ∷
    -- objects
    (object_from [], 2) ∷
    (object_from ((key "a", int (pos 1)) ∷ []), 7) ∷
    (object_from ((key "a", int (pos 1)) ∷ (key "b", null) ∷ []), 16) ∷
    (object_from ((key "a", int (pos 1)) ∷ (key "a", int (pos 2)) ∷ []), 13) ∷
    (object_from ((borrowed_text [], boolean true) ∷ []), 9) ∷
    (object_from ((owned_text (34 ∷ []), boolean false) ∷ []), 12) ∷
    (object_from ((key "a", object_from ((key "b", object_from []) ∷ [])) ∷ []), 14) ∷
    (object_from ((key "a", array_from (int (pos 1) ∷ float_from "2.50" ∷ owned_string (10 ∷ []) ∷ [])) ∷ []), 23) ∷
    (object_from ((borrowed_text (195 ∷ 169 ∷ []), borrowed_string (195 ∷ 169 ∷ [])) ∷ []), 11) ∷
    (object_from ((owned_text (1 ∷ []), null) ∷ []), 15) ∷
    []

again : map (λ r. answer true (print_of r.0)) rows ≡ map (λ r. done r.0 r.1) rows
unfolding computed_answers
again = refl

-- With each text owned, a value holds the same.
owned_holds_same : map (λ r. owned_tree (owned_tree r.0)) rows ≡ map (λ r. owned_tree r.0) rows
unfolding computed_answers
owned_holds_same = refl

-- And it has the same text.
owned_prints_same : map (λ r. print_of (owned_tree r.0)) rows ≡ map (λ r. print_of r.0) rows
unfolding computed_answers
owned_prints_same = refl

-- the text over lines, two spaces for a level
lines : pretty_of 2
    (object_from ((key "a", array_from (int (pos 1) ∷ float_from "2.50" ∷ [])) ∷ (key "b", array_from (object_from [] ∷ []))
    ∷ (key "c", array_from []) ∷ []))
    ≡ join_with_byte 10 (map codes
    ("{" ∷ "  \"a\": [" ∷ "    1," ∷ "    2.50" ∷ "  ]," ∷ "  \"b\": [" ∷ "    {}" ∷ "  ]," ∷ "  \"c\": []" ∷ "}" ∷ []))
unfolding computed_answers
lines = refl
