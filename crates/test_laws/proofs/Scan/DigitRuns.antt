-- Numbers whose digits come in runs of some lengths, with a comma after them, by computation.
use Rattle.std.proofs.Common.{◌≡◌, ℕ, ◌+◌, ◌*◌, pos, negsuc, false, List, [], ◌∷◌, ◌++◌, refl, codes, map}
use Rattle.std.specs.Prelude.{replicate}
use Rattle.jiter_scan.specs.Scanned.{Scanned, taken}
use Rattle.jiter_scan.specs.Number.{Number, integer, big, float}
use Rattle.jiter_scan.specs.NumberReading.{number_at}
use Rattle.jiter_scan.proofs.Computed.{computed_numbers}

abbrev sevens : ℕ → List ℕ
sevens n = replicate n 55

abbrev numbers : List (List ℕ × Scanned Number)
numbers =
    (codes "7,", taken (integer (pos 7)) 1) ∷
    (codes "-7,", taken (integer (negsuc 6)) 2) ∷
    (codes "7777777,", taken (integer (pos 7777777)) 7) ∷
    (codes "-7777777,", taken (integer (negsuc 7777776)) 8) ∷
    (codes "77777777,", taken (integer (pos 77777777)) 8) ∷
    (codes "-77777777,", taken (integer (negsuc 77777776)) 9) ∷
    (codes "777777777,", taken (integer (pos 777777777)) 9) ∷
    (codes "-777777777,", taken (integer (negsuc 777777776)) 10) ∷
    (codes "777777777777777,", taken (integer (pos 777777777777777)) 15) ∷
    (codes "-777777777777777,", taken (integer (negsuc 777777777777776)) 16) ∷
    (codes "7777777777777777,", taken (integer (pos 7777777777777777)) 16) ∷
    (codes "-7777777777777777,", taken (integer (negsuc 7777777777777776)) 17) ∷
    (codes "77777777777777777,", taken (integer (pos 77777777777777777)) 17) ∷
    (codes "-77777777777777777,", taken (integer (negsuc 77777777777777776)) 18) ∷
    (codes "77777777777777777777777,", taken (big (codes "77777777777777777777777")) 23) ∷
    (codes "-77777777777777777777777,", taken (big (codes "-77777777777777777777777")) 24) ∷
    (codes "777777777777777777777777,", taken (big (codes "777777777777777777777777")) 24) ∷
    (codes "-777777777777777777777777,", taken (big (codes "-777777777777777777777777")) 25) ∷
    (codes "7777777777777777777777777,", taken (big (codes "7777777777777777777777777")) 25) ∷
    (codes "-7777777777777777777777777,", taken (big (codes "-7777777777777777777777777")) 26) ∷
    (sevens 40 ++ codes ",", taken (big (sevens 40)) 40) ∷
    (codes "-" ++ (sevens 40 ++ codes ","), taken (big (codes "-" ++ sevens 40)) 41) ∷
    -- what may be after
    (codes "-7777777777777777.5", taken (float (codes "-7777777777777777.5")) 19) ∷
    (codes "-7777777777777777.5]", taken (float (codes "-7777777777777777.5")) 19) ∷
    (codes "-7777777777777777.5 ", taken (float (codes "-7777777777777777.5")) 19) ∷
    []

numbers_read : map (λ r. number_at false r.0 0) numbers ≡ map (λ r. r.1) numbers
unfolding computed_numbers
numbers_read = refl

-- so many digits in each run
abbrev counts : List ℕ
counts = 1 ∷ 7 ∷ 8 ∷ 9 ∷ 15 ∷ 16 ∷ 17 ∷ 23 ∷ 24 ∷ 25 ∷ 40 ∷ []

abbrev everywhere : ℕ → List ℕ
everywhere n = sevens n ++ (codes "." ++ (sevens n ++ (codes "e-" ++ sevens n)))

runs_of_a_fraction : map (λ n. number_at false (codes "1." ++ (sevens n ++ codes ",")) 0) counts ≡ map
    (λ n. taken (float (codes "1." ++ sevens n)) (n + 2)) counts
unfolding computed_numbers
runs_of_a_fraction = refl

runs_of_a_power : map (λ n. number_at false (codes "1.5e" ++ (sevens n ++ codes ",")) 0) counts ≡ map
    (λ n. taken (float (codes "1.5e" ++ sevens n)) (n + 4)) counts
unfolding computed_numbers
runs_of_a_power = refl

runs_everywhere : map (λ n. number_at false (everywhere n ++ codes ",") 0) counts ≡ map
    (λ n. taken (float (everywhere n)) (3 * n + 3)) counts
unfolding computed_numbers
runs_everywhere = refl
