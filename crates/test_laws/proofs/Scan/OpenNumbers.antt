-- What the bytes after each stage of a number are read as, by computation.
use Rattle.std.proofs.Common.{◌≡◌, ℕ, false, List, [], ◌∷◌, refl, codes, map}
use Rattle.jiter_scan.specs.Kind.{eof_value, invalid_number, number_out_of_range}
use Rattle.jiter_scan.specs.PartialNumber.{number_from}
use Rattle.jiter_scan.specs.Scanned.{taken, failed}
use Rattle.jiter_scan.specs.Word.{Span}
use Rattle.jiter_scan.specs.declared.number.partial_number.Stage.{Stage}
use Rattle.jiter_scan.specs.declared.number.partial_number.Stage.TheVariants as stage

-- the stage, the text, the place reached, and where the number ends
abbrev stages : List (Stage × List ℕ × ℕ × Span)
stages =
    (stage.Minus, codes "-", 1, failed eof_value 1) ∷
    (stage.Minus, codes "-12,", 1, taken tt 3) ∷
    (stage.Minus, codes "-I", 1, failed invalid_number 1) ∷
    (stage.Minus, codes "--", 1, failed invalid_number 1) ∷
    (stage.Zero, codes "0", 1, taken tt 1) ∷
    (stage.Zero, codes "01", 1, failed invalid_number 1) ∷
    (stage.Zero, codes "0.5]", 1, taken tt 3) ∷
    (stage.Digits 2, codes "1234]", 2, taken tt 4) ∷
    (stage.Digits 2, codes "12345]", 2, failed number_out_of_range 5) ∷
    (stage.Digits 0, codes "12e3", 2, taken tt 4) ∷
    (stage.Digits 0, codes "123.", 2, failed number_out_of_range 3) ∷
    (stage.Point, codes "1.", 2, failed eof_value 2) ∷
    (stage.Point, codes "1.e", 2, failed invalid_number 2) ∷
    (stage.Point, codes "1.25e1", 2, taken tt 6) ∷
    (stage.Fraction, codes "1.2", 3, taken tt 3) ∷
    (stage.Fraction, codes "1.2.3", 3, taken tt 3) ∷
    (stage.Fraction, codes "1.23e", 3, failed eof_value 5) ∷
    (stage.Letter, codes "1e+5", 2, taken tt 4) ∷
    (stage.Letter, codes "1e+", 2, failed eof_value 3) ∷
    (stage.Letter, codes "1ee", 2, failed invalid_number 2) ∷
    (stage.Sign, codes "1e++", 3, failed invalid_number 3) ∷
    (stage.Sign, codes "1e-07", 3, taken tt 5) ∷
    (stage.Exponent, codes "1e5e", 3, taken tt 3) ∷ []

stages-are : map (λ r. number_from false r.0 r.1 r.2) stages ≡ map (λ r. r.3) stages
stages-are = refl
