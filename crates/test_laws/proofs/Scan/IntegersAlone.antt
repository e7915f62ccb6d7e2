-- Integers that are to be the whole text, by computation.
use Rattle.std.proofs.Common.{◌≡◌, ℕ, pos, negsuc, List, [], ◌∷◌, refl, codes, map}
use Rattle.jiter_scan.specs.Kind.{eof_value, invalid_number}
use Rattle.jiter_scan.specs.Scanned.{Scanned, taken, failed}
use Rattle.jiter_scan.specs.Number.{Number, integer, big}
use Rattle.jiter_scan.specs.NumberReading.{int_alone}
use Rattle.jiter_scan.proofs.Computed.{computed_numbers}

abbrev integers : List (List ℕ × Scanned Number)
integers =
    (codes "0", taken (integer (pos 0)) 1) ∷
    (codes "-0", taken (integer (pos 0)) 2) ∷
    (codes "1000000000000000000", taken (integer (pos 1000000000000000000)) 19) ∷
    (codes "-9223372036854775808", taken (integer (negsuc 9223372036854775807)) 20) ∷
    (codes "-9223372036854775809", taken (big (codes "-9223372036854775809")) 20) ∷
    (codes "9223372036854775808", taken (big (codes "9223372036854775808")) 19) ∷
    (codes "1.", failed invalid_number 1) ∷
    (codes "1.5", failed invalid_number 1) ∷
    (codes "12e", failed invalid_number 2) ∷
    (codes "12E5", failed invalid_number 2) ∷
    (codes "12x", failed invalid_number 2) ∷
    (codes "-", failed eof_value 1) ∷
    (codes "-I", failed invalid_number 1) ∷
    (codes "NaN", failed invalid_number 0) ∷
    (codes "Infinity", failed invalid_number 0) ∷
    (codes "-N", failed invalid_number 1) ∷
    (codes "-x", failed invalid_number 1) ∷
    ([], failed invalid_number 0) ∷
    (codes " 1", failed invalid_number 0) ∷
    (codes "x", failed invalid_number 0) ∷
    (codes "01", failed invalid_number 1) ∷
    (codes "01.5", failed invalid_number 1) ∷
    (codes "-01", failed invalid_number 2) ∷
    []

integers_alone : map (λ r. int_alone r.0) integers ≡ map (λ r. r.1) integers
unfolding computed_numbers
integers_alone = refl
