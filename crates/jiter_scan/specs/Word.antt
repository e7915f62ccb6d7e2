-- A word of given bytes, as `true`, read from the left.
use Rattle.std.specs.Prelude.{ℕ, ◌+◌, ◌==◌, if◌then◌else◌, List, [], ◌∷◌, slice_get, Option, Some, None}
use Rattle.jiter_scan.specs.Kind.{eof_value, expected_ident}
use Rattle.jiter_scan.specs.Scanned.{Scanned, taken, failed}

-- where something ends, or an error
abbrev pub Span : Type 0
Span = Scanned (Unit {0})

abbrev pub byte_then : Span → ℕ → ℕ → Option ℕ → Span
byte_then rest c i None = failed eof_value i
byte_then rest c i (Some b) = if b == c then rest else failed expected_ident i

-- The word at i: its end, or the first byte that differs, or the end of input.
unfoldable pub word_at : List ℕ → List ℕ → ℕ → Span
word_at t [] i = taken tt i
word_at t (c ∷ w) i = byte_then (word_at t w (i + 1)) c i (slice_get t i)
