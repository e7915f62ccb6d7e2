-- What the calls of the pull reader return, and where they leave it.
use Rattle.std.specs.Prelude.{◌≡◌, ◌≢◌, ◌<◌, ◌≤◌, ◌+◌, ℕ, false, List, length, Result, Ok, Err, IfOk, IfErr, IfSome}
use Rattle.std.specs.Prelude.{slice_get, slice_index, Bool, Option, Some, option_map}
use Rattle.std.specs.Cow.{cow_str_bytes}
use Rattle.std.specs.declared.alloc.Global.{Global}
use Rattle.std.specs.declared.borrow.CowStr.{CowStr}
use Rattle.jiter_scan.specs.Ascii as ascii
use Rattle.jiter_scan.specs.Kind.{fault_kind, out_of_memory}
use Rattle.jiter_scan.specs.Scan.{IsLook, scan_stop}
use Rattle.jiter_scan.specs.declared.bytes.short_scan.Look.TheVariants as look
use Rattle.jiter_steps.specs.Literal.{start_of}
use Rattle.jiter_steps.specs.Step.{Step, more}
use Rattle.jiter_steps.specs.Tree.{Text}
use Rattle.jiter_steps.specs.declared.parse.Start.{Start}
use Rattle.jiter_steps.specs.declared.read_error.ReadError.{ReadError}
use Rattle.jiter_steps.specs.declared.read_error.ReadError.TheVariants as error
use Rattle.jiter.specs.Cause.{json_error}
use Rattle.jiter.specs.Errors.{cause_of}
use Rattle.jiter.specs.Reader.{ReaderState, Reply, gave, refused, Refusal, with_position}
use Rattle.jiter.specs.declared.errors.JiterError.{JiterError}
use Rattle.jiter.specs.declared.peek.Peek.{Peek}

-- a reader that is before the first byte, with both settings off
abbrev pub at_start : List ℕ → ReaderState
at_start t = record { text = t; position = 0; names = false; partial_strings = false }

-- How a call moves the reader: over the same bytes with the same settings, never back and never past the length.
pub record MovesOn (old new : ReaderState) : Type 0 where
  pub same : new ≡ with_position old new.position
  pub forward : old.position ≤ new.position
  pub within : new.position ≤ length old.text

-- why an error was returned, and at which index
abbrev pub refusal_view : JiterError → Refusal
refusal_view e = record { cause = cause_of e.error_type; index = e.index }

-- What was returned, seen by view, and the place where the reader then is, are this reply.
abbrev pub Replies : {X A : Type 0} → (X → A) → Result X JiterError → ReaderState → Reply A → Type 0
Replies view (Ok x) new r = r ≡ gave (view x) new.position
Replies view (Err e) new r = r ≡ refused (cause_of e.error_type) e.index new.position

-- An error that is no a failed allocation, with its index within the text.
pub record IsRefusalOf (t : List ℕ) (e : JiterError) : Type 0 where
  pub bytes : cause_of e.error_type ≢ json_error out_of_memory
  pub within : e.index ≤ length t

-- A call that doesn't allocate refuses for the bytes alone.
abbrev pub RefusesBytes : {X : Type 0} → List ℕ → Result X JiterError → Type 0
RefusesBytes t result = IfErr result (IsRefusalOf t)

-- a failed allocation
abbrev pub IsMemory : JiterError → Type 0
IsMemory e = cause_of e.error_type ≡ json_error out_of_memory

-- unless an allocation fails, P
abbrev pub UnlessMemory : {X : Type 0} → Result X JiterError → Type 0 → Type 0
UnlessMemory (Ok x) P = P
UnlessMemory (Err e) P = (IsMemory e → ⊥) → P

-- where an allocation failed, P of the error
abbrev pub WhereMemory : {X : Type 0} → Result X JiterError → (JiterError → Type 0) → Type 0
WhereMemory result P = IfErr result (λ e. IsMemory e → P e)

-- an error's index lies within the text
abbrev pub IndexWithin : {X : Type 0} → List ℕ → Result X JiterError → Type 0
IndexWithin t result = IfErr result (λ e. e.index ≤ length t)

-- The error that the error of a reading becomes, where the reader is at i: its error, or a failed allocation there.
abbrev pub IsErrorAt : ReadError → ℕ → JiterError → Type 0
IsErrorAt (error.Fault f) i e = refusal_view e ≡ record { cause = json_error (fault_kind f.kind); index = f.index }
IsErrorAt (error.Memory m) i e = refusal_view e ≡ record { cause = json_error out_of_memory; index = i }

-- a reply, what it gave seen so
abbrev pub reply_seen : {A B : Type 0} → (A → B) → Reply A → Reply B
reply_seen f (gave a e) = gave (f a) e
reply_seen f (refused c i stop) = refused c i stop

-- the bytes of a text
abbrev pub text_bytes : Text → List ℕ
text_bytes x = x.bytes

-- The string at i has its first backslash at e.0, and if e.1 is true all bytes before it are below 80 hex.
abbrev pub IsEscapedAt : List ℕ → ℕ → ℕ × Bool → Type 0
IsEscapedAt t i e = (e.0 ≡ scan_stop t (i + 1)) × IsLook t (i + 1) e.0 (look.Escaped e.1)

-- the bytes of a key, if there is one
abbrev pub key_bytes : Option Text → Option (List ℕ)
key_bytes = option_map text_bytes

-- the byte c is where the reader is
abbrev pub StandsAt : ReaderState → ℕ → Type 0
StandsAt s c = slice_get s.text s.position ≡ Some c

-- the byte c is right before i
abbrev pub StandsBefore : List ℕ → ℕ → ℕ → Type 0
StandsBefore t i c = (j : ℕ) × (i ≡ j + 1) × (slice_get t j ≡ Some c)

-- the byte of a peek
abbrev pub byte_of : Peek → ℕ
byte_of p = p.0

-- the byte that was told, if there is one, is where the reader is
abbrev pub TellsHere : Result (Option Peek) JiterError → ReaderState → Type 0
TellsHere result s = IfOk result (λ told. IfSome told (λ p. StandsAt s (byte_of p)))

-- where a key was given, a colon is right before i
abbrev pub EndsWithColon : {K : Type 0} → Result (Option K) JiterError → List ℕ → ℕ → Type 0
EndsWithColon result t i = IfOk result (λ key. IfSome key (λ _. StandsBefore t i ascii.colon))

-- the bytes of a key that was given with an index
abbrev pub indexed_key_bytes : CowStr Global × ℕ → List ℕ
indexed_key_bytes k = cow_str_bytes k.0

-- The index of a key that was given is where this step led: that of the key's quote.
abbrev pub KeyIsAt : {K : Type 0} → Step → Result (Option (K × ℕ)) JiterError → Type 0
KeyIsAt led result = IfOk result (λ key. IfSome key (λ k. led ≡ more k.1))

-- at i a value begins so
abbrev pub BeginsAt : List ℕ → ℕ → Start → Type 0
BeginsAt t i b = start_of (slice_index t i) ≡ b

-- where the reader is a value begins so
pub record BeginsAs (s : ReaderState) (b : Start) : Type 0 where
  pub within : s.position < length s.text
  pub is : b ≡ start_of (slice_index s.text s.position)
