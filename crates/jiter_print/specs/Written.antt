-- What a writer of known bytes holds once a line was written, or a part of it.
use Rattle.std.specs.Prelude.{ℕ, List, Option, take}
use Rattle.std.specs.Io.KnownBytes.{Appends}

-- known bytes grow by a prefix of bs
abbrev pub AppendsPrefix : Option (List ℕ) → Option (List ℕ) → List ℕ → Type 0
AppendsPrefix old new bs = (n : ℕ) × Appends old new (take n bs)
