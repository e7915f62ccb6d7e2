-- Descriptions of some errors, by computation.
use Rattle.std.proofs.Common.{◌≡◌, ℕ, List, [], ◌∷◌, refl, codes, map}
use Rattle.std.specs.Fmt.{digits}
use Rattle.jiter_scan.specs.Kind.{Kind, eof_list, eof_value, expected_ident, trailing_characters}
use Rattle.jiter_scan.specs.Position.{description_text}

abbrev faults : List (Kind × ℕ × List ℕ × List ℕ)
faults =
    (trailing_characters, 7, codes "[1, 2] extra", codes "trailing characters at line 1 column 8") ∷
    (eof_value, 0, [], codes "EOF while parsing a value at line 1 column 0") ∷
    (expected_ident, 4, codes "[tru]", codes "expected ident at line 1 column 5") ∷
    (eof_list, 5, codes "[true", codes "EOF while parsing a list at line 1 column 5") ∷
    (eof_value, 3, codes "[1,", codes "EOF while parsing a value at line 1 column 3") ∷
    []

descriptions : map (λ r. description_text r.0 r.1 r.2) faults ≡ map (λ r. r.3) faults
unfolding digits
descriptions = refl
