-- What C is told of the line feeds of a document in chunks.
use Rattle.std.specs.Prelude.{◌≡◌, ◌+◌, ◌^◌, ◌<◌, ◌≤◌, ◌++◌, ◌⊎◌, ℕ, Bool, true, false, Contains, List, length}
use Rattle.jiter_incremental.specs.LineIndex.{HasPassed, Passed}
use Rattle.jiter_c.specs.Holding.{HoldsLines, MatchLines}
use Rattle.jiter_c.specs.declared.handles.Contents.{Contents}

-- What a push of this chunk comes to: its bytes passed too. If it failed, nothing changed: the number of bytes would be
-- too large, or memory ran out, for a chunk with a line feed.
abbrev pub PassesOn : Passed → Passed → List ℕ → Bool → Type 0
PassesOn l m chunk true =
    ((t : List ℕ) → HasPassed l t → HasPassed m (t ++ chunk)) × (l.count + length chunk < 2 ^ 64)
PassesOn l m chunk false = (m ≡ l) × ((2 ^ 64 ≤ l.count + length chunk) ⊎ Contains chunk 10)

-- The same of what a handle holds; if that is no line index, the push fails and nothing changes.
abbrev pub Passes : Contents → Contents → List ℕ → Bool → Type 0
Passes old new chunk pushed =
    MatchLines old ((pushed ≡ false) × (new ≡ old)) (λ l. HoldsLines new (λ m. PassesOn l m chunk pushed))
