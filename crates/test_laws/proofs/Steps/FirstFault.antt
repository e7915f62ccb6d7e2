-- Where texts go wrong, by computation: the kinds of error that say that no document begins so, and those that do not.
use Rattle.std.proofs.Common.{◌≡◌, ℕ, ◌+◌, Bool, true, false, List, [], ◌∷◌, ◌++◌, take, refl, codes, map}
use Rattle.std.specs.Prelude.{Option, Some, None, replicate}
use Rattle.jiter_scan.specs.Kind.{Kind, eof_list, eof_object, eof_string, eof_value, expected_colon}
use Rattle.jiter_scan.specs.Kind.{expected_list_comma_or_end, expected_object_comma_or_end, expected_ident}
use Rattle.jiter_scan.specs.Kind.{expected_value, invalid_escape, invalid_number, number_out_of_range}
use Rattle.jiter_scan.specs.Kind.{invalid_code_point, control_character, key_must_be_a_string, lone_surrogate}
use Rattle.jiter_scan.specs.Kind.{trailing_comma, trailing_characters, end_of_hex_escape, recursion_limit}
use Rattle.jiter_steps.specs.Read.{Reading, done, fault}
use Rattle.jiter_steps.specs.Answer.{answer}
use Rattle.jiter_steps.specs.FirstFault.{BeginsNoDocument}
use Rattle.jiter_steps.proofs.Fault.Dead.{dead}
use Rattle.test_laws.proofs.Steps.Trees.{times, Give}
use Rattle.jiter_steps.proofs.Computed.{computed_readings}

-- a text, its error's kind and index, and bytes that go on its prefix
abbrev Row : Type 0
Row = List ℕ × Kind × ℕ × List ℕ

abbrev pub fault_of : {A : Type 0} → Reading A → Option (Kind × ℕ)
fault_of (done a e) = None
fault_of (fault k i stop) = Some (k, i)

abbrev pub is_done : {A : Type 0} → Reading A → Bool
is_done (done a e) = true
is_done (fault k i stop) = false

abbrev pub is_document : List ℕ → Bool
is_document t = is_done (answer false t)

-- Each kind that says that no document begins with the bytes up to and including the one at the index. With the bytes
-- before it one does: the index could not be less.
abbrev gone_wrong : List Row
gone_wrong =
    (codes "[1}", expected_list_comma_or_end, 2, codes "]") ∷
    (codes "{\"a\":1 \"b\"}", expected_object_comma_or_end, 7, codes "}") ∷
    (codes "{\"a\" 1}", expected_colon, 5, codes ":1}") ∷
    (codes "trux", expected_ident, 3, codes "e") ∷
    (codes "[,]", expected_value, 1, codes "]") ∷
    (codes "\"\\x\"", invalid_escape, 2, codes "n\"") ∷
    (codes "\"\\u00x0\"", invalid_escape, 5, codes "41\"") ∷
    (codes "[-]", invalid_number, 2, codes "1]") ∷
    (codes "01", invalid_number, 1, []) ∷
    (codes "\"a" ++ 31 ∷ codes "\"", control_character, 2, codes "\"") ∷
    (codes "{1:2}", key_must_be_a_string, 1, codes "}") ∷
    (codes "[1,]", trailing_comma, 3, codes "2]") ∷
    (codes "{\"a\":1,}", trailing_comma, 7, codes "\"b\":2}") ∷
    (codes "1 2", trailing_characters, 2, []) ∷
    (codes "\"\\ud83dx\"", end_of_hex_escape, 7, codes "\\ude00\"") ∷
    (times 202 (codes "["), recursion_limit, 201, times 201 (codes "]")) ∷
    []

gone_wrong_no_sooner : (map (λ r. fault_of (answer false r.0)) gone_wrong ≡ map (λ r. Some (r.1, r.2)) gone_wrong)
    × (map (λ r. is_document (take r.2 r.0 ++ r.3)) gone_wrong ≡ map (λ r. true) gone_wrong)
gone_wrong_no_sooner = unfold computed_readings in (refl, refl)

-- Two more kinds: what they refuse is there before the byte at their index.
gone_wrong_before : Give ((λ t. fault_of (answer false t)) ∷ []) (
    (replicate 4301 49, Some (number_out_of_range, 4301)) ∷
    (codes "\"\\udc00\"", Some (lone_surrogate, 6)) ∷
    (codes "\"\\ud83d\\u0041\"", Some (lone_surrogate, 12)) ∷
    [])
gone_wrong_before = unfold computed_readings in refl

-- The other kinds do not say it: a document begins with the bytes up to and including the one at the index.
abbrev gone_on : List Row
gone_on =
    (codes "[", eof_list, 1, codes "]") ∷
    (codes "{", eof_object, 1, codes "}") ∷
    (codes "\"a", eof_string, 2, codes "\"") ∷
    (codes "[1,", eof_value, 3, codes "2]") ∷
    -- the bytes decoded before the error are fewer than those read
    (codes "\"\\n\\n" ++ 255 ∷ codes "\"", invalid_code_point, 3, codes "n\"") ∷
    []

gone_on_document : (map (λ r. fault_of (answer false r.0)) gone_on ≡ map (λ r. Some (r.1, r.2)) gone_on)
    × (map (λ r. is_document (take (r.2 + 1) r.0 ++ r.3)) gone_on ≡ map (λ r. true) gone_on)
gone_on_document = unfold computed_readings in (refl, refl)

-- By the law, of one row.
comma_gone_wrong : answer false (codes "[1,]") ≡ fault trailing_comma 3 3
comma_gone_wrong = unfold computed_readings in refl

no_document_begins : BeginsNoDocument false (codes "[1,]")
no_document_begins = dead false (codes "[1,]") trailing_comma 3 3 comma_gone_wrong refl (λ e. cc)

-- Names decide: without them no document begins with `N`, and with them one does.
a_name : (fault_of (answer false (codes "N")) ≡ Some (expected_value, 0))
    × (map (λ t. fault_of (answer true t)) (codes "N" ∷ codes "NaN" ∷ []) ≡ Some (eof_value, 1) ∷ None ∷ [])
a_name = unfold computed_readings in (refl, refl)
