-- What the functions that read raw strings return, and where a string's content is over.
use Rattle.std.specs.Prelude.{◌≡◌, ℕ, false, List}
use Rattle.std.specs.Borrow.{Bor}
use Rattle.jiter_steps.specs.Tree.{Text}
use Rattle.jiter_steps.specs.StringReading.{over, event_at, body_at}

-- bytes that are in the source
abbrev pub raw_view : Bor (List ℕ) → Text
raw_view s = record { owned = false; bytes = s.now }

-- The content that begins at i is over at j: how it ends is what is there.
abbrev pub EndsAt : List ℕ → ℕ → ℕ → Type 0
EndsAt t i j = event_at t j ≡ over (body_at t i).stop
