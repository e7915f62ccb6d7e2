-- What the kernels give, by computation.
use Rattle.std.proofs.Common.{◌≡◌, ℕ, Bool, true, false, List, [], ◌∷◌, ◌++◌, refl, codes, map}
use Rattle.std.specs.Prelude.{Option, Some, None, replicate}
use Rattle.jiter_scan.specs.Simd.{digits_end, ascii_from}

-- bytes, a place, a limit, and the end of the digits there
abbrev runs : List (List ℕ × ℕ × ℕ × Option ℕ)
runs =
    (codes "12,34", 0, 2, Some 2) ∷
    (codes "12,34", 0, 1, None) ∷
    (codes "x123", 1, 3, Some 4) ∷
    (codes "x123", 1, 2, None) ∷
    (codes "x", 0, 0, Some 0) ∷
    ([], 0, 0, Some 0) ∷
    (replicate 17 55 ++ codes "]", 0, 17, Some 17) ∷
    (replicate 17 55 ++ codes "]", 0, 16, None) ∷
    (replicate 40 55, 0, 40, Some 40) ∷
    []

ends_within_a_limit : map (λ r. digits_end r.0 r.1 r.2) runs ≡ map (λ r. r.3) runs
ends_within_a_limit = refl

-- bytes, a place, and whether those up to the first stop are below 80 hex
abbrev texts : List (List ℕ × ℕ × Bool)
texts =
    (codes "\"abc\"", 1, true) ∷
    (34 ∷ 97 ∷ 127 ∷ 34 ∷ 255 ∷ [], 1, true) ∷
    (34 ∷ 97 ∷ 128 ∷ 34 ∷ [], 1, false) ∷
    (34 ∷ 97 ∷ 128 ∷ 97 ∷ [], 3, true) ∷
    (codes "\"" ++ (195 ∷ 169 ∷ codes "aaaaaaaaaaaaa\""), 1, false) ∷
    (replicate 70 97 ++ (128 ∷ []), 0, false) ∷
    (128 ∷ replicate 70 97, 0, false) ∷
    (replicate 70 97 ++ (34 ∷ 128 ∷ []), 0, true) ∷
    ([], 0, true) ∷
    []

texts_below_80_hex : map (λ r. ascii_from r.0 r.1) texts ≡ map (λ r. r.2) texts
texts_below_80_hex = refl
