-- Bytes that are at a place of a text.
use Rattle.std.specs.Prelude.{◌≡◌, ℕ, ◌+◌, List, [], ◌∷◌, slice_get, Some}

-- from i to before j the text has the bytes w
abbrev pub Stands : List ℕ → ℕ → ℕ → List ℕ → Type 0
Stands t i j [] = i ≡ j
Stands t i j (c ∷ w) = (slice_get t i ≡ Some c) × Stands t (i + 1) j w
