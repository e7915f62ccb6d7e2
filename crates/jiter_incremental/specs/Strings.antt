-- A string or a key of a document that arrives in chunks, where it ends.
use Rattle.std.specs.Prelude.{◌≡◌, ◌⊎◌, ℕ, ◌+◌, Bool, List, ◌++◌, length, slice_get, Some, None}
use Rattle.jiter_scan.specs.Ascii as ascii
use Rattle.jiter_scan.specs.Scanned.{taken}
use Rattle.jiter_steps.specs.PartialString.{HasTaken, Wherever, text_or}
use Rattle.jiter_steps.specs.StringReading.{content_at, text_form}
use Rattle.jiter_steps.specs.Tree.{Text, string}
use Rattle.jiter_steps.specs.declared.partial_string.PartialString.{PartialString}
use Rattle.jiter_incremental.specs.Arrived.{owned}
use Rattle.jiter_incremental.specs.Document.{Document, MayFollow, IsReadAs, IsReading, Next, Opened, between_tokens, in_key, in_scalar}
use Rattle.jiter_incremental.specs.Between.{text_of}
use Rattle.jiter_value.specs.Settings.{rules_as}
use Rattle.jiter_incremental.specs.declared.reader.Token.{Token}
use Rattle.jiter_incremental.specs.declared.reader.Token.TheVariants as token
use Rattle.jiter_value.specs.declared.parse.settings.Settings.{Settings}

-- a string that is a value, or a key
abbrev pub IsOfString : Token → Type 0
IsOfString k = (k ≡ token.Text) ⊎ (k ≡ token.Key)

-- A key that begins at b is read as this text, to the end of these bytes.
abbrev pub IsKeyAs : Document → Next → List ℕ → ℕ → Text → Type 0
IsKeyAs d m t b k =
    (p : Settings) (u : List ℕ) → IsReading d p → MayFollow m u
    → (rules_as owned p).key (t ++ u) b ≡ taken k (length t)

-- The string or the key that is unfinished is read as these characters, to the end of these bytes.
abbrev pub IsTextAs : Document → Next → List ℕ → Opened → List ℕ → Type 0
IsTextAs d m t (between_tokens s) text = ⊥
IsTextAs d m t (in_scalar fs b) text = IsReadAs d m t (length fs) b (string (text_of text))
IsTextAs d m t (in_key fs ms b) text = IsKeyAs d m t b (text_of text)

-- Where a quote comes next and no escape is open, this is said of the whole string, or of what is kept of it.
abbrev pub IsClosedAs : PartialString → Bool → Bool → Type 0
IsClosedAs s partial answer =
    (w : List ℕ) (h : HasTaken s w) → s.escape ≡ None → Wherever w (λ t i j. slice_get t j ≡ Some ascii.quote
    → content_at (text_form partial) t i ≡ text_or answer i h.escaped s.text.text (j + 1))
