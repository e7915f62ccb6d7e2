-- Lines and columns of some indices, by computation.
use Rattle.std.proofs.Common.{◌≡◌, ℕ, List, [], ◌∷◌, ◌++◌, refl, codes, map}
use Rattle.jiter_scan.specs.declared.errors.LinePosition.{LinePosition}
use Rattle.jiter_scan.specs.Position.{position_of}

abbrev place : ℕ → ℕ → LinePosition
place line column = record { line = line; column = column }

abbrev indices : List (List ℕ × ℕ × LinePosition)
indices =
    -- a newline's own column is 0
    (codes "ab" ++ (10 ∷ (codes "cd")), 2, place 2 0) ∷
    (codes "ab" ++ (10 ∷ (codes "cd")), 4, place 2 2) ∷
    -- past the end all is counted
    (codes "ab" ++ (10 ∷ (codes "cd")), 9, place 2 2) ∷
    ([], 0, place 1 0) ∷
    (codes "[" ++ (10 ∷ (codes "true" ++ (10 ∷ (codes "x")))), 7, place 3 1) ∷
    []

positions : map (λ r. position_of r.0 r.1) indices ≡ map (λ r. r.2) indices
positions = refl
