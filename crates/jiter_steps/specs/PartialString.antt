-- A string that arrives in chunks: what its bytes so far make of it, wherever they are and whatever comes.
use Rattle.std.specs.Prelude.{◌≡◌, ℕ, ◌+◌, ◌-◌, ◌≤◌, ◌<◌, Bool, List, [], ◌++◌, length, slice_get, slice_range}
use Rattle.std.specs.Prelude.{Option, Some, None, IfSome, if◌then◌else◌}
use Rattle.jiter_scan.specs.Ascii as ascii
use Rattle.jiter_scan.specs.Kind.{fault_kind, invalid_code_point}
use Rattle.jiter_scan.specs.Scanned.{Scanned, taken, failed}
use Rattle.jiter_scan.specs.Stands.{Stands}
use Rattle.jiter_steps.specs.PartialText.{HoldsText, IsWhole, with_text}
use Rattle.jiter_steps.specs.StringReading.{Form, before, body_at, content_at, cut, over, event_at, string_at}
use Rattle.jiter_steps.specs.StringReading.{text_form}
use Rattle.jiter_steps.specs.Tree.{Text}
use Rattle.jiter_steps.specs.declared.partial_string.PartialString.{PartialString}
use Rattle.jiter_steps.specs.declared.partial_string.StringStep.{StringStep}
use Rattle.jiter_steps.specs.declared.partial_string.StringStep.TheVariants as went

-- in every text in which these bytes are after an opening quote, P of it, and of their place and their end there
abbrev pub Wherever : List ℕ → (List ℕ → ℕ → ℕ → Type 0) → Type 0
Wherever w P = (t : List ℕ) (i : ℕ) → Stands t i (i + length w) w → P t i (i + length w)

-- the bytes of an escape that is not whole, if there is one
abbrev pub held_bytes : Option (List ℕ) → List ℕ
held_bytes None = []
held_bytes (Some h) = h

-- the bytes so far are whole characters and whole escapes
abbrev pub IsEven : PartialString → Type 0
IsEven s = (s.escape ≡ None) × IsWhole s.text

-- the same string, with these characters after those so far
abbrev pub grown : PartialString → List ℕ → PartialString
grown s v = record { text = with_text s.text (s.text.text ++ v); escape = s.escape }

-- The string has taken these bytes after its quote: those before an escape that is not whole are decoded, and
-- wherever they are, the string's body is what was decoded, and what is read from there on.
pub record HasTaken (s : PartialString) (w : List ℕ) : Type 0 where
  pub prefix : List ℕ
  pub decoded : List ℕ
  pub escaped : Bool
  pub is : w ≡ prefix ++ held_bytes s.escape
  pub unfinished : IfSome s.escape (λ h. event_at h 0 ≡ over cut)
  pub holds : HoldsText s.text decoded
  pub goes : Wherever w (λ t i j. body_at t i ≡ before decoded escaped (body_at t (i + length prefix)))

-- after the bytes w it has taken so many of a chunk, from a place on
abbrev pub HasTakenFrom : PartialString → List ℕ → List ℕ → ℕ → ℕ → Type 0
HasTakenFrom s w chunk at n = HasTaken s (w ++ slice_range chunk at (at + n))

-- so many bytes of a chunk, one at least, from a place on
abbrev pub IsCountAt : List ℕ → ℕ → ℕ → Type 0
IsCountAt chunk at n = (0 < n) × (at + n ≤ length chunk)

-- What is told of the byte at a place of a chunk is right for a string that has taken the bytes w: bytes are taken
-- from there on; or it is the closing quote; or the string has an error so many bytes before it, whatever comes.
abbrev pub GoesOnWith : PartialString → List ℕ → List ℕ → ℕ → StringStep → Type 0
GoesOnWith new w chunk at (went.Taken n) = HasTakenFrom new w chunk at n
GoesOnWith new w chunk at went.Quote =
    HasTaken new w × (new.escape ≡ None) × (slice_get chunk at ≡ Some ascii.quote)
GoesOnWith new w chunk at (went.Wrong k back) =
    (back ≤ length w)
    × Wherever w (λ t i j. slice_get t j ≡ slice_get chunk at
    → (form : Form) → content_at form t i ≡ failed (fault_kind k) (j - back))

-- What is taken is some bytes of the chunk.
abbrev pub IsPart : List ℕ → ℕ → StringStep → Type 0
IsPart chunk at (went.Taken n) = IsCountAt chunk at n
IsPart chunk at other = Unit {0}

-- the string's text, or the place of a byte that is no UTF-8: it counts on by the decoded bytes before it
abbrev pub text_or : Bool → ℕ → Bool → List ℕ → ℕ → Scanned Text
text_or whole i escaped text e =
    if whole then taken (record { owned = escaped; bytes = text }) e
    else failed invalid_code_point (i + length text)

-- The string whose opening quote is at a place of a chunk ends before e: wherever its bytes are, the quote among
-- them, its text is read, whether cut strings are kept or not.
pub record IsTextWithin (chunk : List ℕ) (at : ℕ) (text : List ℕ) (e : ℕ) : Type 0 where
  pub owned : Bool
  pub first : slice_get chunk at ≡ Some ascii.quote
  pub within : (at + 1 < e) × (e ≤ length chunk)
  pub quoted : Wherever (slice_range chunk at e) (λ t i j. slice_get t i ≡ Some ascii.quote)
  pub reads : (partial : Bool) → Wherever (slice_range chunk at e) (λ t i j. string_at (text_form partial) t i
      ≡ taken (record { owned = owned; bytes = text }) j)
