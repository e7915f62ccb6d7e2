-- How a table is written, and what its rows compute.
use Rattle.jiter.proofs.Words.{◌≡◌, ℕ, true, false, List, map, Text, ReaderState, Reply}
use Rattle.std.specs.Prelude.{⊤}
use Rattle.jiter_steps.proofs.Computed.{computed_readings}

-- a reader, and what the call replies
abbrev pub Row : Type 0 → Type 0
Row A = ReaderState × Reply A

-- The call replies so on each row.
abbrev pub RepliesOn : {A : Type 0} → (ReaderState → Reply A) → List (Row A) → Type 0
RepliesOn call rows = map (λ r. call r.0) rows ≡ map (λ r. r.1) rows

-- a reader of these bytes that is at the place
abbrev pub at : List ℕ → ℕ → ReaderState
at t i = record { text = t; position = i; names = false; partial_strings = false }

-- with names allowed
abbrev pub named : List ℕ → ℕ → ReaderState
named t i = record { text = t; position = i; names = true; partial_strings = false }

-- with cut strings kept
abbrev pub partly : List ℕ → ℕ → ReaderState
partly t i = record { text = t; position = i; names = false; partial_strings = true }

abbrev pub borrowed : List ℕ → Text
borrowed w = record { owned = false; bytes = w }

abbrev pub owned : List ℕ → Text
owned w = record { owned = true; bytes = w }

-- what a row unfolds
unfoldable pub computed_replies : ⊤
unfolding computed_readings
computed_replies = tt
