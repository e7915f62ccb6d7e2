-- Where skipped values end, and strings damaged at some places, read and skipped, by computation.
use Rattle.std.proofs.Common.{◌≡◌, ℕ, true, false, List, [], ◌∷◌, ◌++◌, refl, codes, map}
use Rattle.jiter_scan.specs.Kind.{Kind, eof_list, expected_ident, expected_value, invalid_escape, invalid_number}
use Rattle.jiter_scan.specs.Kind.{invalid_code_point, trailing_comma, control_character, lone_surrogate}
use Rattle.jiter_scan.specs.Kind.{end_of_hex_escape}
use Rattle.jiter_steps.specs.Read.{done, fault}
use Rattle.jiter_steps.specs.Answer.{answer, skip_at, read_at}
use Rattle.test_laws.proofs.Steps.Trees.{GiveAt}
use Rattle.jiter_steps.proofs.Computed.{computed_readings}

ends : GiveAt (skip_at false ∷ []) (
    (codes "[1,2] x", 0, done tt 5) ∷
    (codes "[1, {\"a\": \"]\"}, 2]", 4, done tt 14) ∷
    (codes "[12.5,", 1, done tt 5) ∷
    (codes " null", 1, done tt 5) ∷
    (codes "[\"a\\q\"]", 0, fault invalid_escape 4 1) ∷
    (codes "[01]", 0, fault invalid_number 2 1) ∷
    (codes "{\"a\":nul}", 0, fault expected_ident 8 5) ∷
    (codes "[1,]", 0, fault trailing_comma 3 3) ∷
    (codes "[1", 0, fault eof_list 2 2) ∷
    (codes "[x", 1, fault expected_value 1 1) ∷
    -- the UTF-8 of texts and keys is not tested
    (codes "[\"" ++ 255 ∷ codes "\"]", 0, done tt 5) ∷
    (codes "{\"" ++ 255 ∷ codes "\":1}", 0, done tt 7) ∷
    [])
ends = unfold computed_readings in refl

a_name : skip_at true (codes "[NaN]") 1 ≡ done tt 4
a_name = unfold computed_readings in refl

broken_utf8_read : read_at false (codes "[\"" ++ 255 ∷ codes "\"]") 0 ≡ fault invalid_code_point 2 1
broken_utf8_read = unfold computed_readings in refl

-- refused at this index, with the reading left at the quote
abbrev damage : List (List ℕ × Kind × ℕ)
damage =
    (codes "\"" ++ 31 ∷ codes "\"", control_character, 1) ∷
    (codes "\"\\q\"", invalid_escape, 2) ∷
    (codes "\"\\udc00\"", lone_surrogate, 6) ∷
    (codes "\"\\ud83dx\"", end_of_hex_escape, 7) ∷
    (codes "\"a" ++ 31 ∷ codes "\"", control_character, 2) ∷
    (codes "\"a\\q\"", invalid_escape, 3) ∷
    (codes "\"a\\udc00\"", lone_surrogate, 7) ∷
    (codes "\"a\\ud83dx\"", end_of_hex_escape, 8) ∷
    (codes "\"aaaaaaaaaaaaaaaa" ++ 31 ∷ codes "\"", control_character, 17) ∷
    (codes "\"aaaaaaaaaaaaaaaa\\q\"", invalid_escape, 18) ∷
    (codes "\"aaaaaaaaaaaaaaaa\\udc00\"", lone_surrogate, 22) ∷
    (codes "\"aaaaaaaaaaaaaaaa\\ud83dx\"", end_of_hex_escape, 23) ∷
    []

damage_answer : (map (λ r. answer false r.0) damage ≡ map (λ r. fault r.1 r.2 0) damage)
    × (map (λ r. skip_at false r.0 0) damage ≡ map (λ r. fault r.1 r.2 0) damage)
damage_answer = unfold computed_readings in (refl, refl)

-- the byte FF: where it is refused as no UTF-8, and where the string ends if it is skipped
abbrev byte_ff : List (List ℕ × ℕ × ℕ)
byte_ff =
    (codes "\"" ++ 255 ∷ codes "\"", 1, 3) ∷
    (codes "\"a" ++ 255 ∷ codes "\"", 2, 4) ∷
    (codes "\"aaaaaaaaaaaaaaaa" ++ 255 ∷ codes "\"", 17, 19) ∷
    []

byte_ff_answer : (map (λ r. answer false r.0) byte_ff ≡ map (λ r. fault invalid_code_point r.1 0) byte_ff)
    × (map (λ r. skip_at false r.0 0) byte_ff ≡ map (λ r. done tt r.2) byte_ff)
byte_ff_answer = unfold computed_readings in (refl, refl)
