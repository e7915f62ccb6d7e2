-- The words that are values: the literals (RFC 8259, 3), and the names of floats.
use Rattle.std.specs.Prelude.{ℕ, true, List, codes}
use Rattle.jiter_scan.specs.NumberReading.{number_span}
use Rattle.jiter_scan.specs.Word.{Span}
use Rattle.jiter_steps.specs.Literal.{literal_at, literal_tree, word_of}
use Rattle.jiter_steps.specs.Tree.{Tree, float}
use Rattle.jiter_steps.specs.declared.parse.Start.{Start}
use Rattle.jiter_steps.specs.declared.parse.Start.TheVariants as start
use Rattle.jiter_incremental.specs.Between.{text_of}
use Rattle.jiter_incremental.specs.declared.names.WordValue.{WordValue}
use Rattle.jiter_incremental.specs.declared.names.WordValue.TheVariants as name

-- its letters, except a minus before them
abbrev pub name_word : WordValue → List ℕ
name_word (name.Literal l) = word_of l
name_word name.NaN = codes "NaN"
name_word name.Infinity = codes "Infinity"
name_word name.MinusInfinity = codes "Infinity"

-- and with it
abbrev pub name_bytes : WordValue → List ℕ
name_bytes (name.Literal l) = word_of l
name_bytes name.NaN = codes "NaN"
name_bytes name.Infinity = codes "Infinity"
name_bytes name.MinusInfinity = codes "-Infinity"

-- its tree
abbrev pub name_tree : WordValue → Tree
name_tree (name.Literal l) = literal_tree l
name_tree name.NaN = float (text_of (codes "NaN"))
name_tree name.Infinity = float (text_of (codes "Infinity"))
name_tree name.MinusInfinity = float (text_of (codes "-Infinity"))

-- what its first byte says
abbrev pub name_start : WordValue → Start
name_start (name.Literal l) = start.Literal l
name_start other = start.Number

-- where it ends that begins at i, if names are numbers
abbrev pub name_span : WordValue → List ℕ → ℕ → Span
name_span (name.Literal l) t i = literal_at t l i
name_span other t i = number_span true t i
