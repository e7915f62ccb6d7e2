-- Texts of causes, by computation.
use Rattle.jiter.proofs.Words.{◌≡◌, ℕ, List, [], ◌∷◌, refl, codes, map, trailing_comma, Cause, json_error, wrong_type}
use Rattle.jiter.proofs.Words.{null, bool, int, string, array, object}
use Rattle.std.specs.Fmt.{digits}
use Rattle.jiter.specs.Cause.{float}
use Rattle.jiter.specs.Cause.{cause_text, error_text, error_description}

abbrev causes : List (Cause × List ℕ)
causes =
    (wrong_type null bool, codes "expected null but found bool") ∷
    (wrong_type array object, codes "expected array but found object") ∷
    (wrong_type float string, codes "expected float but found string") ∷
    []

causes-read : map (λ r. cause_text r.0) causes ≡ map (λ r. r.1) causes
causes-read = refl

errors-read :
    (error_text (json_error trailing_comma) 3 ≡ codes "trailing comma at index 3")
    × (error_text (wrong_type int float) 1 ≡ codes "expected int but found float at index 1")
    × (error_description (wrong_type int float) 1 (codes " 1.5")
    ≡ codes "expected int but found float at line 1 column 2")
unfolding digits
errors-read = (refl, refl, refl)
