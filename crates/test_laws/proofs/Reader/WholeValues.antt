-- What reads and skips of whole values reply, and where the reader is then, by computation.
use Rattle.jiter.proofs.Words.{ℕ, ◌+◌, pos, List, [], ◌∷◌, ◌++◌, refl, codes, flat_map, replicate, eof_string}
use Rattle.jiter.proofs.Words.{eof_value, expected_ident, expected_value, invalid_escape, invalid_number}
use Rattle.jiter.proofs.Words.{invalid_code_point, trailing_comma, recursion_limit, Text, Tree, json_error, ReaderState}
use Rattle.jiter.proofs.Words.{gave, refused, next, bytes_read, value_read, skip_read}
use Rattle.jiter_scan.specs.Kind.{control_character, lone_surrogate}
use Rattle.jiter_scan.specs.Kind.{end_of_hex_escape}
use Rattle.jiter_steps.specs.Tree.{items_of}
use Rattle.jiter_steps.specs.Tree as tree
use Rattle.test_laws.proofs.Reader.Tables.{Row, RepliesOn, computed_replies, at, partly, borrowed}

abbrev a_list : Tree
a_list = tree.array (items_of (tree.int (pos 1) ∷ tree.string (borrowed (codes "a")) ∷ []))

values : RepliesOn (λ s. next s (value_read s)) (
    (at (codes " [1, \"a\"] x") 0, gave a_list 9) ∷
    (at (codes " ]") 0, refused (json_error expected_value) 1 1) ∷
    (at (codes " ") 0, refused (json_error eof_value) 1 1) ∷
    (at (codes "[1,]") 0, refused (json_error trailing_comma) 3 3) ∷
    (at (codes "[01]") 0, refused (json_error invalid_number) 2 1) ∷
    (at (codes "[\"" ++ (255 ∷ (codes "\"]"))) 0, refused (json_error invalid_code_point) 2 1) ∷
    (partly (codes "[\"a") 0, refused (json_error eof_string) 3 1) ∷
    [])
unfolding computed_replies
values = refl

skips : RepliesOn (λ s. next s (skip_read s)) (
    (at (codes "[1,2] x") 0, gave tt 5) ∷
    (at (codes "[\"a\\q\"]") 0, refused (json_error invalid_escape) 4 1) ∷
    (at (codes "[01]") 0, refused (json_error invalid_number) 2 1) ∷
    (at (codes "{\"a\":nul}") 0, refused (json_error expected_ident) 8 5) ∷
    (at (codes "[\"" ++ (255 ∷ (codes "\"]"))) 0, gave tt 5) ∷
    (at (codes "{\"" ++ (255 ∷ (codes "\":1}"))) 0, gave tt 7) ∷
    (at (replicate 300 91 ++ replicate 300 93) 0, refused (json_error recursion_limit) 201 201) ∷
    [])
unfolding computed_replies
skips = refl

-- a string of so many letters `a` and this damage
abbrev with_damage : ℕ → List ℕ → ReaderState
with_damage n damage = at (34 ∷ (replicate n 97 ++ (damage ++ 34 ∷ []))) 0

-- Skips and bytes want no UTF-8, and find every other damage at its place.
abbrev damaged : {A : Type 0} → A → ℕ → List (Row A)
damaged a n =
    (with_damage n (255 ∷ []), gave a (n + 3)) ∷
    (with_damage n (31 ∷ []), refused (json_error control_character) (n + 1) 0) ∷
    (with_damage n (codes "\\q"), refused (json_error invalid_escape) (n + 2) 0) ∷
    (with_damage n (codes "\\udc00"), refused (json_error lone_surrogate) (n + 6) 0) ∷
    (with_damage n (codes "\\ud83dx"), refused (json_error end_of_hex_escape) (n + 7) 0) ∷
    []

skips_of_damage : RepliesOn (λ s. next s (skip_read s)) (flat_map (damaged tt) (0 ∷ 1 ∷ 16 ∷ []))
unfolding computed_replies
skips_of_damage = refl

abbrev bytes_of_damage : ℕ → List (Row Text)
bytes_of_damage n = damaged (borrowed (replicate n 97 ++ 255 ∷ [])) n

bytes_of_damage-reply : RepliesOn (λ s. next s (bytes_read s)) (flat_map bytes_of_damage (0 ∷ 1 ∷ 16 ∷ []))
unfolding computed_replies
bytes_of_damage-reply = refl
