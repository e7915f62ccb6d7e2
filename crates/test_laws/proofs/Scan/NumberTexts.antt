-- Bytes that are a number's text, and bytes that are none, by computation.
use Rattle.std.proofs.Common.{◌≡◌, ℕ, true, false, Bool, List, [], ◌∷◌, refl, codes, map}
use Rattle.jiter_scan.specs.NumberTests.{is_number_text}
use Rattle.jiter_scan.proofs.Computed.{computed_numbers}

abbrev without_names : List (List ℕ × Bool)
without_names =
    (codes "0", true) ∷
    (codes "-0", true) ∷
    (codes "1205", true) ∷
    (codes "-12", true) ∷
    (codes "12.50", true) ∷
    (codes "0.0", true) ∷
    (codes "1e5", true) ∷
    (codes "1E5", true) ∷
    (codes "1e+5", true) ∷
    (codes "-0.5e-05", true) ∷
    (codes "123456789012345678901234567890", true) ∷
    (codes "NaN", false) ∷
    (codes "Infinity", false) ∷
    (codes "-Infinity", false) ∷
    ([], false) ∷
    (codes "-", false) ∷
    (codes "+1", false) ∷
    (codes "01", false) ∷
    (codes "00", false) ∷
    (codes "-01", false) ∷
    (codes "0.", false) ∷
    (codes ".5", false) ∷
    (codes "1.e5", false) ∷
    (codes "1e", false) ∷
    (codes "1e+", false) ∷
    (codes "1e+-5", false) ∷
    (codes "e5", false) ∷
    (codes "1.2.3", false) ∷
    (codes "1e2e3", false) ∷
    (codes " 1", false) ∷
    (codes "1 ", false) ∷
    (codes "1x", false) ∷
    (codes "--1", false) ∷
    []

without_names_tested : map (λ r. is_number_text false r.0) without_names ≡ map (λ r. r.1) without_names
unfolding computed_numbers
without_names_tested = refl

abbrev with_names : List (List ℕ × Bool)
with_names =
    (codes "NaN", true) ∷
    (codes "Infinity", true) ∷
    (codes "-Infinity", true) ∷
    (codes "-NaN", false) ∷
    (codes "Inf", false) ∷
    (codes "NaNx", false) ∷
    (codes "-I", false) ∷
    []

with_names_tested : map (λ r. is_number_text true r.0) with_names ≡ map (λ r. r.1) with_names
unfolding computed_numbers
with_names_tested = refl
