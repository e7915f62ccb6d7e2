-- What the texts of numbers stand for, by computation.
use Rattle.std.proofs.Common.{◌≡◌, ℕ, List, [], ◌∷◌, refl, codes, map}
use Rattle.std.specs.Prelude.{pos, negsuc}
use Rattle.jiter_scan.specs.Number.{Number, integer, big, float, number_value}
use Rattle.jiter_scan.proofs.Computed.{computed_numbers}

abbrev rows : List (List ℕ × Number)
rows =
    (codes "0", integer (pos 0)) ∷
    (codes "-0", integer (pos 0)) ∷
    (codes "-1", integer (negsuc 0)) ∷
    (codes "1205", integer (pos 1205)) ∷
    (codes "9223372036854775807", integer (pos 9223372036854775807)) ∷
    (codes "9223372036854775808", big (codes "9223372036854775808")) ∷
    (codes "-9223372036854775808", integer (negsuc 9223372036854775807)) ∷
    (codes "-9223372036854775809", big (codes "-9223372036854775809")) ∷
    (codes "100000000000000000000", big (codes "100000000000000000000")) ∷
    (codes "1.0", float (codes "1.0")) ∷
    (codes "1e2", float (codes "1e2")) ∷
    (codes "-2E-3", float (codes "-2E-3")) ∷
    (codes "NaN", float (codes "NaN")) ∷
    (codes "-Infinity", float (codes "-Infinity")) ∷
    []

rows_stand : map (λ r. number_value r.0) rows ≡ map (λ r. r.1) rows
unfolding computed_numbers
rows_stand = refl
