-- Numbers read at a place of a text, by computation.
use Rattle.std.proofs.Common.{◌≡◌, ℕ, pos, negsuc, true, false, List, [], ◌∷◌, refl, codes, map}
use Rattle.jiter_scan.specs.Kind.{eof_value, expected_ident, expected_value, invalid_number}
use Rattle.jiter_scan.specs.Scanned.{Scanned, taken, failed}
use Rattle.jiter_scan.specs.Number.{Number, integer, big, float}
use Rattle.jiter_scan.specs.NumberReading.{number_at}
use Rattle.jiter_scan.proofs.Computed.{computed_numbers}

abbrev without_names : List (List ℕ × ℕ × Scanned Number)
without_names =
    (codes "0", 0, taken (integer (pos 0)) 1) ∷
    (codes "-0", 0, taken (integer (pos 0)) 2) ∷
    (codes "[12,", 1, taken (integer (pos 12)) 3) ∷
    (codes "[-12]", 1, taken (integer (negsuc 11)) 4) ∷
    (codes "12.50", 0, taken (float (codes "12.50")) 5) ∷
    (codes " -0.5 ", 1, taken (float (codes "-0.5")) 5) ∷
    (codes "1e5", 0, taken (float (codes "1e5")) 3) ∷
    (codes "1E+5", 0, taken (float (codes "1E+5")) 4) ∷
    (codes "[1.5e-05]", 1, taken (float (codes "1.5e-05")) 8) ∷
    (codes "0e0", 0, taken (float (codes "0e0")) 3) ∷
    -- the byte after a number is no part of it
    (codes "[1x]", 1, taken (integer (pos 1)) 2) ∷
    (codes "1.2.3", 0, taken (float (codes "1.2")) 3) ∷
    (codes "1e2e3", 0, taken (float (codes "1e2")) 3) ∷
    (codes "1-2", 0, taken (integer (pos 1)) 1) ∷
    (codes "9223372036854775807", 0, taken (integer (pos 9223372036854775807)) 19) ∷
    (codes "9223372036854775808", 0, taken (big (codes "9223372036854775808")) 19) ∷
    (codes "-9223372036854775808", 0, taken (integer (negsuc 9223372036854775807)) 20) ∷
    (codes "-9223372036854775809", 0, taken (big (codes "-9223372036854775809")) 20) ∷
    (codes "123456789012345678901234567890", 0, taken (big (codes "123456789012345678901234567890")) 30) ∷
    (codes "-NaN", 0, failed invalid_number 1) ∷
    (codes "[NaN]", 1, failed expected_value 1) ∷
    (codes "[I]", 1, failed expected_value 1) ∷
    (codes "[-I]", 1, failed invalid_number 2) ∷
    -- errors
    ([], 0, failed eof_value 0) ∷
    (codes "x", 0, failed invalid_number 0) ∷
    (codes "-", 0, failed eof_value 1) ∷
    (codes "[-]", 1, failed invalid_number 2) ∷
    (codes "-x", 0, failed invalid_number 1) ∷
    (codes "01", 0, failed invalid_number 1) ∷
    (codes "-01", 0, failed invalid_number 2) ∷
    (codes "[00]", 1, failed invalid_number 2) ∷
    (codes "0.", 0, failed eof_value 2) ∷
    (codes "0.x", 0, failed invalid_number 2) ∷
    (codes "[1.e5]", 1, failed invalid_number 3) ∷
    (codes "1e", 0, failed eof_value 2) ∷
    (codes "1ex", 0, failed invalid_number 2) ∷
    (codes "1e+", 0, failed eof_value 3) ∷
    (codes "1e+x", 0, failed invalid_number 3) ∷
    (codes "1e+-5", 0, failed invalid_number 3) ∷
    []

without_names_read : map (λ r. number_at false r.0 r.1) without_names ≡ map (λ r. r.2) without_names
unfolding computed_numbers
without_names_read = refl

abbrev with_names : List (List ℕ × ℕ × Scanned Number)
with_names =
    (codes "[NaN]", 1, taken (float (codes "NaN")) 4) ∷
    (codes "[Infinity]", 1, taken (float (codes "Infinity")) 9) ∷
    (codes "[-Infinity]", 1, taken (float (codes "-Infinity")) 10) ∷
    (codes "[-Inf", 1, failed eof_value 5) ∷
    (codes "Na", 0, failed eof_value 2) ∷
    (codes "[Infinit]", 1, failed expected_ident 8) ∷
    (codes "NaM", 0, failed expected_ident 2) ∷
    (codes "-InfX", 0, failed expected_ident 4) ∷
    (codes "-NaN", 0, failed invalid_number 1) ∷
    []

with_names_read : map (λ r. number_at true r.0 r.1) with_names ≡ map (λ r. r.2) with_names
unfolding computed_numbers
with_names_read = refl
