-- Where a scan for the end of plain bytes stops, by computation.
use Rattle.std.proofs.Common.{◌≡◌, ℕ, List, [], ◌∷◌, ◌++◌, refl, codes, map}
use Rattle.jiter_scan.specs.Scan.{scan_stop}

abbrev texts : List (List ℕ × ℕ × ℕ)
texts =
    (codes "\"abc\"", 1, 4) ∷
    (codes "\"ab\\n\"", 1, 3) ∷
    (codes "ab" ++ (31 ∷ (codes "c\"")), 0, 2) ∷
    (codes "\"abc", 1, 4) ∷
    (codes "\"\"", 1, 1) ∷
    ([], 0, 0) ∷
    (codes "ab", 2, 2) ∷
    (34 ∷ 97 ∷ 195 ∷ 169 ∷ 127 ∷ 255 ∷ 34 ∷ [], 1, 6) ∷
    (codes "a b\"", 0, 3) ∷
    (codes "aaaa\\aaaa\"aaaaaaaaaa", 0, 4) ∷
    (codes "\"aaaaaaaaaaaaaaaa\"", 1, 17) ∷
    (codes "\"" ++ (195 ∷ 169 ∷ (codes "aaaaaaaaaaaaa\"")), 1, 16) ∷
    []

stops : map (λ r. scan_stop r.0 r.1) texts ≡ map (λ r. r.2) texts
stops = refl
