-- A text that arrives in parts: how the bytes so far are, whatever follows them.
use Rattle.std.specs.Prelude.{◌≡◌, ℕ, Bool, true, false, List, [], ◌++◌, take, Some, None}
use Rattle.std.specs.Str.{IsUtf8}
use Rattle.std.specs.Str.Lossy.{utf8_error_len}

-- what was read: a text, a character's bytes of which more may complete it, and whether a wrong byte came instead
pub record SoFar : Type 0 where
  pub text : List ℕ
  pub rest : List ℕ
  pub broken : Bool

-- before the first byte
abbrev pub nothing : SoFar
nothing = record { text = []; rest = []; broken = false }

-- these characters in the place of those so far
abbrev pub with_text : SoFar → List ℕ → SoFar
with_text s text = record { text = text; rest = s.rest; broken = s.broken }

-- it is whole characters
abbrev pub IsWhole : SoFar → Type 0
IsWhole s = (s.broken ≡ false) × (s.rest ≡ [])

-- no prefix of these bytes is a text, but the empty one
abbrev pub BeginsNoText : List ℕ → Type 0
BeginsNoText w = (m : ℕ) → IsUtf8 (take m w) → take m w ≡ []

-- these bytes are no character yet, and more may complete one; no bytes are so too
pub record IsUnfinished (w : List ℕ) : Type 0 where
  pub none : BeginsNoText w
  pub unended : utf8_error_len w ≡ None

-- these bytes begin no text, whatever follows them: so many of them are wrong
pub record IsBroken (w : List ℕ) : Type 0 where
  pub none : (u : List ℕ) → BeginsNoText (w ++ u)
  pub count : ℕ
  pub wrong : (u : List ℕ) → utf8_error_len (w ++ u) ≡ Some count

-- the bytes d are a text, and what is none yet, or will be none
abbrev pub HoldsBytes : Bool → List ℕ → List ℕ → List ℕ → Type 0
HoldsBytes false text rest d = (d ≡ text ++ rest) × IsUnfinished rest
HoldsBytes true text rest d = (w : List ℕ) × (d ≡ text ++ w) × IsBroken w

-- what was read are these bytes
abbrev pub HoldsText : SoFar → List ℕ → Type 0
HoldsText s d = HoldsBytes s.broken s.text s.rest d
