-- What a reader makes of a chunk, in an open container of the value so far, whatever that is in.
use Rattle.std.specs.Prelude.{◌≡◌, ◌⊎◌, ℕ, zero, suc, ◌+◌, ◌-◌, ◌≤◌, ◌<◌, ◌^◌, List, ◌++◌, length, take, slice_get, slice_index, slice_range, Bool, false}
use Rattle.std.specs.Prelude.{Option, Some, None}
use Rattle.std.specs.declared.alloc.Global.{Global}
use Rattle.std.specs.declared.borrow.CowStr.{CowStr}
use Rattle.jiter_scan.specs.Ascii as ascii
use Rattle.jiter_scan.specs.declared.number.partial_number.PartialNumber.{PartialNumber}
use Rattle.jiter_steps.specs.declared.partial_string.PartialString.{PartialString}
use Rattle.jiter_steps.specs.Node.{nesting_limit}
use Rattle.jiter_steps.specs.StringDecoder.{text_view}
use Rattle.jiter_steps.specs.Tree.{Text, Tree, members_of, null, object, string}
use Rattle.jiter_incremental.specs.Arrived.{at_value}
use Rattle.jiter_incremental.specs.Document.{Document, HasReadIn, HasTakenIn, ReadSoFar, MayRefuseAt, Next, any_bytes, between_tokens, in_key, is_shown, noted_in}
use Rattle.jiter_incremental.specs.Between.{text_of}
use Rattle.jiter_incremental.specs.Document.{with_byte}
use Rattle.jiter_incremental.specs.Slot.{AwaitsPart, HasRoomAt, IsOfKey, IsPut, OpenFrame, filled}
use Rattle.jiter_scan.specs.declared.errors.FaultKind.{FaultKind}
use Rattle.jiter_incremental.specs.declared.reader.Awaits.{Awaits}
use Rattle.jiter_incremental.specs.declared.reader.Awaits.TheVariants as awaits
use Rattle.jiter_incremental.specs.declared.reader.Reader.{Reader}
use Rattle.jiter_incremental.specs.declared.reader.Token.{Token}
use Rattle.jiter_incremental.specs.declared.reader.Token.TheVariants as token
use Rattle.jiter_value.specs.declared.value.JsonValue.{JsonValue}

-- The document of a reader and the value so far
abbrev pub document : Reader → Tree → Document
document r v = record {
  settings = r.settings;
  position = r.base + r.at;
  begin = r.begin;
  token = r.token;
  shown = r.shown;
  name = r.name;
  word = r.word;
  number = r.number;
  string = r.string;
  value = record { awaits = r.awaits; depth = r.depth; key = text_view r.key; tree = v };
  fault = r.fault;
  first = r.first;
}

-- The containers outside a slot at this level, of which the root is one at level 0 as at level 1
abbrev pub IsAt : ℕ → List OpenFrame → Type 0
IsAt level outer = length outer ≡ level - 1

-- What is known of what comes next: after a value the next byte of the chunk may have decided already that it ended.
abbrev pub next_of : Option ℕ → Next
next_of (Some c) = with_byte c
next_of None = any_bytes

abbrev pub ahead_as : Token → Awaits → List ℕ → ℕ → Next
ahead_as token.Nothing awaits.Comma chunk i = next_of (slice_get chunk i)
ahead_as token.Nothing awaits.Nothing chunk i = next_of (slice_get chunk i)
ahead_as k a chunk i = any_bytes

abbrev pub ahead : Reader → List ℕ → ℕ → Next
ahead r chunk i = ahead_as r.token r.awaits chunk i

-- The reader has read these bytes, of which the last are those of the chunk up to its index.
pub record HasReadTo (chunk : List ℕ) (r : Reader) (v : Tree) (t : List ℕ) : Type 0 where
  pub read : HasReadIn (ahead r chunk r.at) (document r v) t
  pub position : r.base + r.at ≡ length t

-- and what is unfinished is apart.
pub record HasTakenTo (chunk : List ℕ) (r : Reader) (v : Tree) (t : List ℕ) : Type 0 where
  pub read : HasTakenIn (ahead r chunk r.at) (document r v) t
  pub position : r.base + r.at ≡ length t

-- It stays where it is, and shows no more and no less.
abbrev pub IsStill : Reader → Reader → Type 0
IsStill i j = (j.settings ≡ i.settings) × (j.base ≡ i.base) × (j.at ≡ i.at) × (j.shown ≡ i.shown)

-- An unfinished scalar that is a value is in the value so far.
abbrev pub IsComplete : Reader → Type 0
IsComplete r = r.fault ≡ None → r.shown ≡ false → is_shown (document r null) ≡ false

-- It took so many bytes of the chunk, which are not counted yet: none only where it ended the container before a byte.
pub record MovesBy (level : ℕ) (chunk : List ℕ) (i j : Reader) (n : ℕ) : Type 0 where
  pub within : i.at + n ≤ length chunk
  pub some : (0 < n) ⊎ (j.depth < level)
  pub still : IsStill i j
  pub depth : (level ≤ j.depth + 1) × (j.depth ≤ level + 1)
  pub low : j.depth ≤ nesting_limit + 1
  pub calm : ¬ (j.depth ≡ level) → j.fault ≡ None

pub record Steps (level : ℕ) (chunk : List ℕ) (i : Reader) (v : Tree) (j : Reader) (w : Tree) (n : ℕ) : Type 0 where
  pub goes : (t : List ℕ) (outer : List OpenFrame) → IsAt level outer → HasTakenTo chunk i (filled outer v) t
      → HasTakenIn (ahead j chunk (i.at + n)) (document j (filled outer w)) (t ++ slice_range chunk i.at (i.at + n))
  pub moves : MovesBy level chunk i j n

-- No error is final, and the container at this level is the innermost.
abbrev pub IsSettled : ℕ → Reader → Type 0
IsSettled level r = (r.fault ≡ None) × (r.depth ≡ level)

-- The byte of the separator that is awaited (RFC 8259, 2), and what is awaited after it
abbrev pub Separates : Awaits → ℕ → Awaits → Type 0
Separates awaits.Comma c a = (c ≡ ascii.comma) × (a ≡ awaits.Next)
Separates awaits.Colon c a = (c ≡ ascii.colon) × (a ≡ awaits.Value)
Separates other c a = ⊥

-- A value or a key ended at e. The separator after it is taken too, up to n, if the chunk has it.
abbrev pub TakesSeparator : List ℕ → ℕ → Reader → Reader → ℕ → Type 0
TakesSeparator chunk e i j n =
    ((n ≡ e) × (j ≡ i))
    ⊎ ((c : ℕ) × (a : Awaits) × Separates i.awaits c a × (i.token ≡ token.Nothing) × (slice_get chunk e ≡ Some c)
    × (n ≡ e + 1) × (j ≡ record i { awaits = a }))

-- An allocation failed: what was read is read as before, whatever comes.
pub record ReadsAsBefore (level : ℕ) (chunk : List ℕ) (i : Reader) (v : Tree) (j : Reader) (w : Tree) : Type 0 where
  pub goes : (t : List ℕ) (outer : List OpenFrame) → IsAt level outer → HasTakenTo chunk i (filled outer v) t
      → HasTakenIn any_bytes (document j (filled outer w)) t
  pub free : ahead j chunk i.at ≡ any_bytes
  pub still : IsStill i j
  pub depth : j.depth ≡ i.depth

-- A value is awaited with the byte c, which comes next, inside these containers.
pub record ValueHere (c : ℕ) (d : Document) (t : List ℕ) (fs : List OpenFrame) : Type 0 where
  pub known : ReadSoFar (with_byte c) d t (between_tokens (at_value awaits.Value fs))
  pub part : AwaitsPart d.value.depth d.value.tree fs
  pub key : IsOfKey d.value.key fs
  pub position : d.position ≡ length t

pub record AwaitsValue (level : ℕ) (chunk : List ℕ) (i : Reader) (v : Tree) : Type 0 where
  pub free : ahead i chunk i.at ≡ any_bytes
  pub goes : (t : List ℕ) (outer : List OpenFrame) → IsAt level outer → HasTakenTo chunk i (filled outer v) t
      → (fs : List OpenFrame) × ValueHere (slice_index chunk i.at) (document i (filled outer v)) t fs

-- A key begins with the byte c, which comes next, in an object that has these members.
pub record KeyHere (c : ℕ) (d : Document) (t : List ℕ) (fs : List OpenFrame) (ms : List (Text × Tree)) : Type 0 where
  pub known : ReadSoFar (with_byte c) d t (in_key fs ms (length t))
  pub deep : d.value.depth ≡ length fs + 1
  pub tree : d.value.tree ≡ filled fs (object (members_of ms))
  pub position : d.position ≡ length t

pub record AwaitsKey (level : ℕ) (chunk : List ℕ) (i : Reader) (v : Tree) : Type 0 where
  pub quote : slice_index chunk i.at ≡ ascii.quote
  pub free : ahead i chunk i.at ≡ any_bytes
  pub goes : (t : List ℕ) (outer : List OpenFrame) → IsAt level outer → HasTakenTo chunk i (filled outer v) t
      → (fs : List OpenFrame) × (ms : List (Text × Tree))
      × KeyHere (slice_index chunk i.at) (document i (filled outer v)) t fs ms

-- The same bytes are read: an unfinished scalar was moved into the value so far, or out of it.
pub record AsRead (level : ℕ) (i : Reader) (v : Tree) (j : Reader) (w : Tree) : Type 0 where
  pub goes : (n : Next) (t : List ℕ) (outer : List OpenFrame) → IsAt level outer
      → HasReadIn n (document i (filled outer v)) t → HasReadIn n (document j (filled outer w)) t

-- the same reader, with these parts
abbrev pub with_shown : Reader → Bool → PartialNumber → PartialString → CowStr Global → Reader
with_shown r shown n s k = record r { shown = shown; number = n; string = s; key = k }

-- the slot is the innermost open container, in a document that is read on
pub record IsHere (level : ℕ) (chunk : List ℕ) (i : Reader) (v : Tree) : Type 0 where
  pub here : i.depth ≡ level
  pub low : level ≤ nesting_limit + 1
  pub inside : i.at < length chunk
  pub room : i.base + length chunk < 2 ^ 64
  pub unset : i.fault ≡ None
  pub read : (t : List ℕ) × (outer : List OpenFrame) × IsAt level outer × HasTakenTo chunk i (filled outer v) t

-- what comes next after a value at this level
abbrev pub after_level : ℕ → Awaits
after_level zero = awaits.Nothing
after_level (suc n) = awaits.Comma

-- the same reader after a text that was put, or a key
abbrev pub after_text : Reader → ℕ → CowStr Global → PartialString → Reader
after_text i level k s = record i { token = token.Nothing; awaits = after_level level; key = k; string = s }

abbrev pub after_key : Reader → CowStr Global → PartialString → Reader
after_key i k s = record i { token = token.Nothing; key = k; string = s }

-- What was put of a string: the text as a value, or the key
pub record IsPutSo (level : ℕ) (i : Reader) (v : Tree) (j : Reader) (w : Tree) : Type 0 where
  pub text : i.token ≡ token.Text
      → IsPut level v (text_view i.key) (string (text_of i.string.text.text)) w
      × (j ≡ after_text i level j.key j.string)
  pub key : i.token ≡ token.Key
      → (w ≡ v) × (text_view j.key ≡ text_of i.string.text.text) × (j ≡ after_key i j.key j.string)

-- the same reader, with this final error
abbrev pub refused : Reader → FaultKind → ℕ → Reader
refused r k i = record r { fault = Some (record { kind = k; index = i }); first = noted_in r.first k i }

-- or one that its mode forgives
abbrev pub noted : Reader → FaultKind → ℕ → Reader
noted r k i = record r { first = noted_in r.first k i }

-- A reader goes on in a container at this level or inside it.
pub record Ready (level : ℕ) (chunk : List ℕ) (i : Reader) (v : Tree) : Type 0 where
  pub above : level ≤ i.depth
  pub low : i.depth ≤ nesting_limit + 1
  pub within : i.at ≤ length chunk
  pub room : i.base + length chunk < 2 ^ 64
  pub read : (t : List ℕ) × (outer : List OpenFrame) × IsAt level outer × HasReadTo chunk i (filled outer v) (t ++ take i.at chunk)

-- What it has read of the chunk leads from the one to the other, whatever the container is in and whatever came before.
pub record ReadsThrough (level : ℕ) (chunk : List ℕ) (i : Reader) (v : Tree) (j : Reader) (w : Tree) : Type 0 where
  pub goes : (t : List ℕ) (outer : List OpenFrame) → IsAt level outer
      → HasReadTo chunk i (filled outer v) (t ++ take i.at chunk)
      → HasReadTo chunk j (filled outer w) (t ++ take j.at chunk)

pub record Advanced (level : ℕ) (chunk : List ℕ) (i : Reader) (v : Tree) (j : Reader) (w : Tree) : Type 0 where
  pub after : i.at ≤ j.at
  pub within : j.at ≤ length chunk
  pub same : (j.settings ≡ i.settings) × (j.base ≡ i.base)
  pub depth : level ≤ j.depth + 1
  pub low : j.depth ≤ nesting_limit + 1
  pub reads : ReadsThrough level chunk i v j w

-- An allocation failed before a byte of the chunk, and not before the first that is not whitespace.
pub record Refuses (level : ℕ) (chunk : List ℕ) (i : Reader) (v : Tree) (j : Reader) : Type 0 where
  pub goes : (t : List ℕ) (outer : List OpenFrame) → IsAt level outer
      → HasReadTo chunk i (filled outer v) (t ++ take i.at chunk) → MayRefuseAt (t ++ chunk) (j.base + j.at)
  pub free : ahead j chunk j.at ≡ any_bytes

-- A number or a string that is a value: the value so far can hold it.
abbrev pub IsScalar : Token → Type 0
IsScalar k = (k ≡ token.Number) ⊎ (k ≡ token.Text)

-- The slot has room for it, where one is unfinished.
abbrev pub KeepsRoom : ℕ → Reader → JsonValue → Type 0
KeepsRoom level r slot = IsScalar r.token → (r.depth ≡ level) × HasRoomAt level slot

-- The container at this level ended: none is unfinished.
abbrev pub HasEnded : Reader → Type 0
HasEnded r = (r.shown ≡ false) × ¬ IsScalar r.token

-- A reader between two steps at this level: what is unfinished is apart here, and is in the value so far further in.
pub record IsPaused (level : ℕ) (r : Reader) (slot : JsonValue) : Type 0 where
  pub apart : r.depth ≤ level → (r.shown ≡ false) × KeepsRoom level r slot
  pub complete : level < r.depth → IsComplete r
