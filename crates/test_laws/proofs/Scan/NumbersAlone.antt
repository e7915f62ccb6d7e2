-- Numbers that are to be the whole text, by computation.
use Rattle.std.proofs.Common.{◌≡◌, ℕ, pos, negsuc, true, false, List, [], ◌∷◌, refl, codes, map}
use Rattle.jiter_scan.specs.Kind.{eof_value, expected_ident, expected_value, invalid_number}
use Rattle.jiter_scan.specs.Scanned.{Scanned, taken, failed}
use Rattle.jiter_scan.specs.Number.{Number, integer, big, float}
use Rattle.jiter_scan.specs.NumberReading.{number_alone}
use Rattle.jiter_scan.proofs.Computed.{computed_numbers}

abbrev Row : Type 0
Row = List ℕ × Scanned Number

abbrev without_names : List Row
without_names =
    (codes "0", taken (integer (pos 0)) 1) ∷
    (codes "-0", taken (integer (pos 0)) 2) ∷
    (codes "-9223372036854775808", taken (integer (negsuc 9223372036854775807)) 20) ∷
    (codes "9223372036854775807", taken (integer (pos 9223372036854775807)) 19) ∷
    (codes "9223372036854775808", taken (big (codes "9223372036854775808")) 19) ∷
    (codes "-9223372036854775809", taken (big (codes "-9223372036854775809")) 20) ∷
    (codes "1000000000000000000", taken (integer (pos 1000000000000000000)) 19) ∷
    (codes "9999999999999999999", taken (big (codes "9999999999999999999")) 19) ∷
    (codes "1234567890123456", taken (integer (pos 1234567890123456)) 16) ∷
    (codes "12345678901234567", taken (integer (pos 12345678901234567)) 17) ∷
    (codes "12345678901234567890", taken (big (codes "12345678901234567890")) 20) ∷
    (codes "1234567890123456.5", taken (float (codes "1234567890123456.5")) 18) ∷
    (codes "1.50", taken (float (codes "1.50")) 4) ∷
    (codes "1.5e-5", taken (float (codes "1.5e-5")) 6) ∷
    ([], failed invalid_number 0) ∷
    (codes " 1", failed invalid_number 0) ∷
    (codes "x", failed invalid_number 0) ∷
    (codes "+1", failed invalid_number 0) ∷
    (codes "\"1\"", failed invalid_number 0) ∷
    (codes "NaN", failed expected_value 0) ∷
    (codes "Infinity", failed expected_value 0) ∷
    (codes "-I", failed invalid_number 1) ∷
    (codes "-", failed eof_value 1) ∷
    (codes "01", failed invalid_number 1) ∷
    (codes "0.", failed eof_value 2) ∷
    (codes "1e+x", failed invalid_number 3) ∷
    (codes "1e", failed eof_value 2) ∷
    (codes "1 ", failed invalid_number 1) ∷
    (codes "1.5x", failed invalid_number 3) ∷
    []

without_names_answer : map (λ r. number_alone false r.0) without_names ≡ map (λ r. r.1) without_names
unfolding computed_numbers
without_names_answer = refl

abbrev with_names : List Row
with_names =
    (codes "NaN", taken (float (codes "NaN")) 3) ∷
    (codes "-Infinity", taken (float (codes "-Infinity")) 9) ∷
    (codes "-NaN", failed invalid_number 1) ∷
    (codes "NaM", failed expected_ident 2) ∷
    (codes "Infin", failed eof_value 5) ∷
    (codes "NaNN", failed invalid_number 3) ∷
    []

with_names_answer : map (λ r. number_alone true r.0) with_names ≡ map (λ r. r.1) with_names
unfolding computed_numbers
with_names_answer = refl
