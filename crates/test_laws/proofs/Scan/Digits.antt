-- Runs of digits and their values, by computation.
use Rattle.std.proofs.Common.{◌≡◌, ℕ, List, [], ◌∷◌, ◌++◌, refl, codes, map}
use Rattle.std.specs.Prelude.{replicate, take}
use Rattle.jiter_scan.specs.Digits.{digit_run_end, decimal_of}

abbrev runs : List (List ℕ × ℕ × ℕ)
runs =
    (codes "12,34", 0, 2) ∷
    (codes "12345]", 2, 5) ∷
    (codes "-123", 1, 4) ∷
    (codes "x1", 0, 0) ∷
    (codes "12", 2, 2) ∷
    (codes "/0:9", 1, 2) ∷
    (codes "1234567890123456", 0, 16) ∷
    (codes "12345678" ++ replicate 8 47, 0, 8) ∷
    (codes "12," ++ replicate 13 255, 0, 2) ∷
    (codes "12," ++ replicate 13 55, 0, 2) ∷
    (codes "123456789]" ++ replicate 6 58, 0, 9) ∷
    []

ends_of_runs : map (λ r. digit_run_end r.0 r.1) runs ≡ map (λ r. r.2) runs
ends_of_runs = refl

abbrev digits : List (List ℕ × ℕ)
digits =
    (codes "12", 12) ∷
    (codes "12345678", 12345678) ∷
    (codes "123456789", 123456789) ∷
    (codes "1234567890123456", 1234567890123456) ∷
    (take 8 (codes "12345678" ++ replicate 8 47), 12345678) ∷
    (take 2 (codes "12," ++ replicate 13 255), 12) ∷
    (take 2 (codes "12," ++ replicate 13 55), 12) ∷
    (take 9 (codes "123456789]" ++ replicate 6 58), 123456789) ∷
    (codes "0012", 12) ∷
    ([], 0) ∷
    []

values_of_digits : map (λ r. decimal_of r.0) digits ≡ map (λ r. r.1) digits
values_of_digits = refl
