-- What documents answer where a repeated key is refused, by computation.
use Rattle.std.proofs.Common.{false, [], ◌∷◌, ◌++◌, refl, codes}
use Rattle.std.specs.Prelude.{◌≡◌}
use Rattle.jiter_scan.specs.Kind.{duplicate_key, expected_colon, invalid_code_point}
use Rattle.jiter_scan.specs.Kind.{kind_text}
use Rattle.jiter_scan.specs.declared.partial_mode.PartialMode.TheVariants.{Off, On, TrailingStrings}
use Rattle.jiter_steps.specs.Read.{done, fault}
use Rattle.jiter_steps.specs.Unique.{unique_answer_in}
use Rattle.test_laws.proofs.Steps.Trees.{ascii, number, listed, paired, Give}
use Rattle.jiter_steps.proofs.Computed.{computed_readings}

-- in every mode
in_every_mode : Give
    (unique_answer_in false Off ∷ unique_answer_in false On ∷ unique_answer_in false TrailingStrings ∷ []) (
    (codes "{\"a\":1,\"\\u0061\":2}", fault (duplicate_key (codes "a")) 16 16) ∷
    (codes "{\"a\":1,\"a\": x", fault (duplicate_key (codes "a")) 11 11) ∷
    (codes "{\"a\":1,\"a\":", fault (duplicate_key (codes "a")) 11 11) ∷
    (codes "{\"a\\\"b\":1,\"a\\\"b\":2}", fault (duplicate_key (codes "a\"b")) 17 17) ∷
    (codes "{\"\":1,\"\" :2}", fault (duplicate_key []) 10 10) ∷ (
      codes "{\"a\":{\"a\":1},\"A\":2}",
      done (paired ((ascii "a", paired ((ascii "a", number 1) ∷ [])) ∷ (ascii "A", number 2) ∷ [])) 19,
    ) ∷ (
      codes "[{\"a\":1},{\"a\":2}]",
      done (listed (paired ((ascii "a", number 1) ∷ []) ∷ paired ((ascii "a", number 2) ∷ []) ∷ [])) 17,
    ) ∷
    (codes "[[{\"a\":1,\"ab\":2,\"a\":3}]]", fault (duplicate_key (codes "a")) 20 20) ∷
    -- the key's own errors come first
    (codes "{\"a\":1,\"a" ++ 255 ∷ codes "\":2}", fault invalid_code_point 9 7) ∷
    [])
in_every_mode = unfold computed_readings in refl

-- a colon that is missing comes first, and is forgiven where the input ends
colons : Give (unique_answer_in false Off ∷ []) ((codes "{\"a\":1,\"a\" 2}", fault expected_colon 11 11) ∷ [])
colons = unfold computed_readings in refl

cut_off : Give (unique_answer_in false On ∷ [])
    ((codes "{\"a\":1,\"a\"", done (paired ((ascii "a", number 1) ∷ [])) 10) ∷ [])
cut_off = unfold computed_readings in refl

-- what is printed
printed : kind_text (duplicate_key (codes "a\"b\\" ++ 0 ∷ 1 ∷ 9 ∷ 10 ∷ 13 ∷ 31 ∷ 127 ∷ []))
    ≡ codes "Detected duplicate key \"a\\\"b\\\\\\0\\u{1}\\t\\n\\r\\u{1f}\\u{7f}\""
printed = refl
