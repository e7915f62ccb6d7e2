-- Where a text lies that is borrowed from the input.
use Rattle.std.specs.Prelude.{◌≡◌, ℕ, ◌+◌, ◌≤◌, false, List, length, slice_range}
use Rattle.jiter_scan.specs.Number.{Number, integer, big, float}
use Rattle.jiter_steps.specs.Tree.{Text}

-- the bytes w are in t from i on
pub record LieAt (t : List ℕ) (i : ℕ) (w : List ℕ) : Type 0 where
  pub within : i + length w ≤ length t
  pub same : w ≡ slice_range t i (i + length w)

-- a text that is borrowed is in t from i on
abbrev pub IsBorrowedAt : List ℕ → ℕ → Text → Type 0
IsBorrowedAt t i s = s.owned ≡ false → LieAt t i s.bytes

-- and so does the text of a number
abbrev pub IsNumberAt : List ℕ → ℕ → Number → Type 0
IsNumberAt t i (integer z) = Unit {0}
IsNumberAt t i (big w) = LieAt t i w
IsNumberAt t i (float w) = LieAt t i w
