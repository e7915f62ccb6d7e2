-- What is written of an array that is read item by item, and of which inputs no error is reported.
use Rattle.std.specs.Prelude.{◌≡◌, ℕ, ◌+◌, Bool, List, [], ◌++◌, Option}
use Rattle.std.specs.Io.KnownBytes.{Appends}
use Rattle.jiter.specs.Caller.{IsDocument, Items, Node, Tree, value_of}
use Rattle.json_lines.specs.Cut.{IsDecided}
use Rattle.json_lines.specs.ItemsLaw.{IsArrayOf}
use Rattle.json_lines.specs.ItemsWritten.{WritesItems}
use Rattle.json_lines.specs.Line.{Seen, written}
use Rattle.json_lines.specs.declared.log.Counts.{Counts}

-- a document becomes this text of its value
abbrev pub WritesValues : Bool → (Tree → List ℕ) → (List ℕ → Seen → Type 0) → Type 0
WritesValues names text becomes = (bytes : List ℕ) (n : Node) → IsDocument names bytes n
    → becomes bytes (written (text (value_of bytes n)))

-- only documents become texts
abbrev pub TakesDocuments : Bool → (List ℕ → Seen → Type 0) → Type 0
TakesDocuments names becomes = (bytes text : List ℕ) → becomes bytes (written text) → (n : Node) × IsDocument names bytes n

-- the texts of these values, in their order
abbrev pub texts_of_values : (Tree → List ℕ) → Items → List ℕ
texts_of_values text Items.no_items = []
texts_of_values text (Items.item value values) = text value ++ texts_of_values text values

-- how many values these are
abbrev pub count_of_values : Items → ℕ
count_of_values Items.no_items = 0
count_of_values (Items.item value values) = 1 + count_of_values values

-- of an array of these values, their texts are written; nothing is reported or kept
pub record WritesArray (text : Tree → List ℕ) (values : Items) (counts : Counts) (out out' err err' bad bad' : Option (List ℕ))
    : Type 0 where
  pub texts : Appends out out' (texts_of_values text values)
  pub reports : Appends err err' []
  pub kept : Appends bad bad' []
  pub texts_counted : counts.texts ≡ count_of_values values
  pub refusals_counted : counts.refused ≡ 0

-- Where a document becomes a text of its value, that is what is written of an array.
abbrev pub IsArrayWritten : Type 1
IsArrayWritten = (becomes : List ℕ → Seen → Type 0) (names : Bool) (text : Tree → List ℕ) (name : List ℕ) (first : ℕ)
    (t : List ℕ) (values : Items) (counts : Counts) (out out' err err' bad bad' : Option (List ℕ))
    → IsDecided becomes → WritesValues names text becomes → IsArrayOf names t values
    → WritesItems becomes name first t counts out out' err err' bad bad'
    → WritesArray text values counts out out' err err' bad bad'

-- Where only documents become texts, an input without an error is an array.
abbrev pub IsOtherReported : Type 1
IsOtherReported = (becomes : List ℕ → Seen → Type 0) (names : Bool) (name : List ℕ) (first : ℕ) (t : List ℕ) (counts : Counts)
    (out out' err err' bad bad' : Option (List ℕ)) → TakesDocuments names becomes
    → WritesItems becomes name first t counts out out' err err' bad bad' → counts.refused ≡ 0
    → (values : Items) × IsArrayOf names t values
