-- Numbers about as long as an integer part may be, by computation.
use Rattle.std.proofs.Common.{◌≡◌, ℕ, true, false, Bool, List, [], ◌∷◌, ◌++◌, length, refl, codes, map}
use Rattle.std.specs.Prelude.{replicate}
use Rattle.jiter_scan.specs.Kind.{number_out_of_range}
use Rattle.jiter_scan.specs.Scanned.{Scanned, taken, failed}
use Rattle.jiter_scan.specs.Number.{Number, float}
use Rattle.jiter_scan.specs.NumberReading.{number_at, number_span, int_alone}
use Rattle.jiter_scan.specs.NumberTests.{is_number_text}
use Rattle.jiter_scan.proofs.Computed.{computed_numbers}
use Rattle.jiter_scan.proofs.NumberTests.{takes_all, number_text-read}

abbrev numbers : List (List ℕ × Scanned Number)
numbers =
    (replicate 4300 49 ++ codes ".5", taken (float (replicate 4300 49 ++ codes ".5")) 4302) ∷
    (replicate 4301 49 ++ codes ".5", failed number_out_of_range 4301) ∷
    (45 ∷ (replicate 4301 49 ++ codes ".5"), failed number_out_of_range 4302) ∷
    -- the error is where the digits pass the limit
    (replicate 4400 49 ++ codes "x", failed number_out_of_range 4301) ∷
    []

numbers_read : map (λ r. number_at false r.0 0) numbers ≡ map (λ r. r.1) numbers
unfolding computed_numbers
numbers_read = refl

too_many_digits_alone : int_alone (replicate 4301 49) ≡ failed number_out_of_range 4301
unfolding computed_numbers
too_many_digits_alone = refl

abbrev texts : List (List ℕ × Bool)
texts =
    (replicate 4300 49 ++ codes ".5", true) ∷
    (replicate 4301 49 ++ codes ".5", false) ∷
    (codes "1." ++ replicate 4301 49, true) ∷
    []

texts_read : map (λ r. takes_all (length r.0) (number_span false r.0 0)) texts ≡ map (λ r. r.1) texts
unfolding computed_numbers
texts_read = refl

texts_tested : map (λ r. is_number_text false r.0) texts ≡ map (λ r. r.1) texts
texts_tested = simp number_text-read texts_read
