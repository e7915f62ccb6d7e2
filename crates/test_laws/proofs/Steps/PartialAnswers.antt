-- What cut and damaged documents answer in a partial mode, by computation.
use Rattle.std.proofs.Common.{◌≡◌, true, false, [], ◌∷◌, ◌++◌, refl, codes, map}
use Rattle.jiter_scan.specs.Kind.{eof_string, eof_value, expected_colon, expected_ident, expected_value, invalid_escape}
use Rattle.jiter_scan.specs.Kind.{invalid_code_point, key_must_be_a_string, trailing_comma, end_of_hex_escape}
use Rattle.jiter_scan.specs.declared.partial_mode.PartialMode.TheVariants.{On, TrailingStrings}
use Rattle.jiter_steps.specs.Tree.{float}
use Rattle.jiter_steps.specs.Read.{done, fault}
use Rattle.jiter_steps.specs.Answer.{partial_answer}
use Rattle.test_laws.proofs.Steps.Trees.{ascii, number, text, word, own_text, listed, paired, Give}
use Rattle.jiter_steps.proofs.Computed.{computed_readings}

-- what both partial modes answer
in_both_modes : Give (partial_answer false On ∷ partial_answer false TrailingStrings ∷ []) (
    -- outside of a container nothing is forgiven
    ([], fault eof_value 0 0) ∷
    (codes "  ", fault eof_value 2 2) ∷
    (codes "tru", fault eof_value 3 0) ∷
    (codes "[1, 2] extra", done (listed (number 1 ∷ number 2 ∷ [])) 6) ∷
    -- errors that no mode forgives
    (codes "[1,]", fault trailing_comma 3 3) ∷
    (codes "{\"a\" 1}", fault expected_colon 5 5) ∷
    (codes "{1:2}", fault key_must_be_a_string 1 1) ∷
    (codes "{\"a\":1,}", fault trailing_comma 7 7) ∷
    (codes "[x", fault expected_value 1 1) ∷
    (codes "[\"a\\ud83dx", fault end_of_hex_escape 9 1) ∷  -- a high surrogate and a letter
    -- cut and damaged within
    (codes "{\"a\":nul", done (paired []) 5) ∷
    (codes "[\"" ++ 255 ∷ codes "\"]", fault invalid_code_point 2 1) ∷  -- broken UTF-8
    (codes "{\"" ++ 255 ∷ [], done (paired []) 1) ∷  -- broken UTF-8 in an open key
    (codes "{\"a" ++ 226 ∷ codes "\":1", fault invalid_code_point 3 1) ∷  -- unfinished UTF-8 in a key
    [])
in_both_modes = unfold computed_readings in refl

-- where the modes differ: without the open string, and with what there is of it
open_strings : Give ((λ t. map (λ m. partial_answer false m t) (On ∷ TrailingStrings ∷ [])) ∷ []) (
    (codes "\"a", fault eof_string 2 0 ∷ done (word "a") 2 ∷ []) ∷ (
      codes "{\"a\": [1, {\"b\": \"x",
      done (paired ((ascii "a", listed (number 1 ∷ paired [] ∷ [])) ∷ [])) 16
          ∷ done (paired ((ascii "a", listed (number 1 ∷ paired ((ascii "b", word "x") ∷ []) ∷ [])) ∷ [])) 18 ∷ [],
    ) ∷ (
      codes "{\"k\":[\"x\",\"y",
      done (paired ((ascii "k", listed (word "x" ∷ [])) ∷ [])) 10
          ∷ done (paired ((ascii "k", listed (word "x" ∷ word "y" ∷ [])) ∷ [])) 12 ∷ [],
    ) ∷
    (codes "[\"", done (listed []) 1 ∷ done (listed (text [] ∷ [])) 2 ∷ []) ∷
    (codes "[\"ab\\u0\"]", done (listed []) 1 ∷ done (listed (own_text (codes "ab") ∷ [])) 9 ∷ []) ∷  -- a cut escape
    (codes "[\"a" ++ 226 ∷ 130 ∷ [], done (listed []) 1 ∷ done (listed (word "a" ∷ [])) 5 ∷ []) ∷  -- a cut character
    -- a closed cut character
    (codes "[\"a" ++ 226 ∷ 130 ∷ codes "\"]", fault invalid_code_point 3 1 ∷ done (listed (word "a" ∷ [])) 7 ∷ []) ∷
    (codes "[\"" ++ 255 ∷ [], done (listed []) 1 ∷ fault invalid_code_point 2 1 ∷ []) ∷  -- broken UTF-8 and the end
    [])
open_strings = unfold computed_readings in refl

in_mode_on : Give (partial_answer false On ∷ []) (
    -- errors that no mode forgives
    (codes "[nulx", fault expected_ident 4 1) ∷
    -- wrong and missing closers
    (codes "{\"a\":1 \"b\"}", done (paired ((ascii "a", number 1) ∷ [])) 7) ∷
    (codes "[{\"a\":[1}, 2]", done (listed (paired ((ascii "a", listed (number 1 ∷ [])) ∷ []) ∷ number 2 ∷ [])) 13) ∷ (
      codes "[{\"a\":[1},{\"b\":2}]",
      done (listed (
          paired ((ascii "a", listed (number 1 ∷ [])) ∷ []) ∷ paired ((ascii "b", number 2) ∷ []) ∷ [])) 18,
    ) ∷ (
      codes "{\"a\":{\"b\":[1},\"c\":2}",
      done (paired (
          (ascii "a", paired ((ascii "b", listed (number 1 ∷ [])) ∷ [])) ∷ (ascii "c", number 2) ∷ [])) 20,
    ) ∷
    (codes "[{\"a\":1],2]", done (listed (paired ((ascii "a", number 1) ∷ []) ∷ [])) 8) ∷
    -- cut arrays and numbers
    (codes "[", done (listed []) 1) ∷
    (codes "[tru", done (listed []) 1) ∷
    (codes "[12", done (listed (number 12 ∷ [])) 3) ∷
    (codes "[12.", done (listed []) 1) ∷
    (codes "[12.5", done (listed (float (ascii "12.5") ∷ [])) 5) ∷
    (codes "[1e", done (listed []) 1) ∷
    (codes "[1e5", done (listed (float (ascii "1e5") ∷ [])) 4) ∷
    (codes "[-", done (listed []) 1) ∷
    (codes "[1,", done (listed (number 1 ∷ [])) 3) ∷
    (codes "[[1,2],[3,", done (listed (listed (number 1 ∷ number 2 ∷ []) ∷ listed (number 3 ∷ []) ∷ [])) 10) ∷
    -- cut objects
    (codes "{", done (paired []) 1) ∷
    (codes "[{\"a", done (listed (paired [] ∷ [])) 2) ∷
    (codes "{\"a\"", done (paired []) 4) ∷
    (codes "{\"a\":", done (paired []) 5) ∷
    (codes "{\"a\":1,\"b\":", done (paired ((ascii "a", number 1) ∷ [])) 11) ∷
    -- cut strings
    (codes "[\"ab\\u00\"]", fault invalid_escape 8 1) ∷  -- a quote among four digits
    (codes "[\"\\uz\"]", done (listed []) 1) ∷  -- a short escape and the end
    (codes "[\"\\uz\"] ", fault invalid_escape 4 1) ∷  -- a bad digit
    [])
in_mode_on = unfold computed_readings in refl

-- where strings are kept
with_strings : Give (partial_answer false TrailingStrings ∷ []) (
    (codes "{\"a\":\"x\",\"b", done (paired ((ascii "a", word "x") ∷ [])) 9) ∷
    (codes "[\"ab\\u00", done (listed (own_text (codes "ab") ∷ [])) 8) ∷  -- a cut escape at the end
    (codes "[\"a\\", done (listed (own_text (codes "a") ∷ [])) 4) ∷
    (codes "[\"a\\ud83d\\ud", done (listed (own_text (codes "a") ∷ [])) 12) ∷  -- a cut pair
    [])
with_strings = unfold computed_readings in refl

a_cut_name : partial_answer true On (codes "[-Inf") ≡ done (listed []) 1
a_cut_name = unfold computed_readings in refl
