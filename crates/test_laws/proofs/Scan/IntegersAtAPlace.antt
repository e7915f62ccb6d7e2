-- Integers read at a place of a text, by computation.
use Rattle.std.proofs.Common.{◌≡◌, ℕ, pos, List, [], ◌∷◌, refl, codes, map}
use Rattle.jiter_scan.specs.Kind.{eof_value, invalid_number}
use Rattle.jiter_scan.specs.Scanned.{Scanned, taken, failed}
use Rattle.jiter_scan.specs.Number.{integer, big}
use Rattle.jiter_scan.specs.NumberReading.{Integer, int_at, int_seen, float_seen}
use Rattle.jiter_scan.proofs.Computed.{computed_numbers}

abbrev integers : List (List ℕ × ℕ × Scanned Integer)
integers =
    (codes "[12,", 1, taken (int_seen (integer (pos 12))) 3) ∷
    (codes "-0", 0, taken (int_seen (integer (pos 0))) 2) ∷
    (codes "9223372036854775808", 0, taken (int_seen (big (codes "9223372036854775808"))) 19) ∷
    (codes "[1x]", 1, taken (int_seen (integer (pos 1))) 2) ∷
    -- a byte of a float is seen, whatever follows it
    (codes " 1.5", 1, taken float_seen 2) ∷
    (codes "1.x", 0, taken float_seen 1) ∷
    (codes "12e", 0, taken float_seen 2) ∷
    (codes "[-0E]", 1, taken float_seen 3) ∷
    (codes "NaN", 0, taken float_seen 0) ∷
    (codes "[Nxx]", 1, taken float_seen 1) ∷
    (codes "I", 0, taken float_seen 0) ∷
    (codes "[-I]", 1, taken float_seen 2) ∷
    ([], 0, failed eof_value 0) ∷
    (codes "[-", 1, failed eof_value 2) ∷
    (codes "-NaN", 0, failed invalid_number 1) ∷
    (codes "-x", 0, failed invalid_number 1) ∷
    (codes "01.5", 0, failed invalid_number 1) ∷
    (codes "-00", 0, failed invalid_number 2) ∷
    (codes "x", 0, failed invalid_number 0) ∷
    []

integers_at_a_place : map (λ r. int_at r.0 r.1) integers ≡ map (λ r. r.2) integers
unfolding computed_numbers
integers_at_a_place = refl
