-- An escape that arrives in pieces: what its next bytes make of it, in any text in which these bytes are.
use Rattle.std.specs.Prelude.{◌≡◌, ◌<◌, ℕ, ◌+◌, true, List, [], ◌∷◌, ◌++◌, length}
use Rattle.std.specs.Char.{encode_utf8}
use Rattle.jiter_scan.specs.Ascii as ascii
use Rattle.jiter_scan.specs.Kind.{fault_kind}
use Rattle.jiter_scan.specs.Stands.{Stands}
use Rattle.jiter_steps.specs.StringReading.{event_at, part, over, cut, wrong}
use Rattle.jiter_steps.specs.declared.partial_escape.EscapeStep.{EscapeStep}
use Rattle.jiter_steps.specs.declared.partial_escape.EscapeStep.TheVariants as spelled

-- its first byte
abbrev pub begun : List ℕ
begun = ascii.backslash ∷ []

-- in any text in which the bytes w are at a place: a character is read there that ends after them, or an error
abbrev pub IsSpelled : List ℕ → EscapeStep → Type 0
IsSpelled w spelled.Part = event_at w 0 ≡ over cut
IsSpelled w (spelled.Whole c) = (t : List ℕ) (i : ℕ) → Stands t i (i + length w) w
    → event_at t i ≡ part (encode_utf8 c) true (i + length w)
IsSpelled w (spelled.Wrong k n) = (t : List ℕ) (i : ℕ) → Stands t i (i + length w) w
    → event_at t i ≡ over (wrong (fault_kind k) (i + n))

-- the bytes that are held then, where these follow
abbrev pub held_after : List ℕ → List ℕ → EscapeStep → List ℕ
held_after w v spelled.Part = w ++ v
held_after w v s = w

-- a wrong byte is one of so many
abbrev pub IsWithin : ℕ → EscapeStep → Type 0
IsWithin m (spelled.Wrong k n) = n < m
IsWithin m s = Unit {0}
