-- What calls of the pull reader reply where a value comes next, by its tree.
use Rattle.std.specs.Prelude.{◌≡◌, ℕ, Bool, true, false, List, slice_index, slice_range}
use Rattle.jiter_scan.specs.Number.{Number, integer}
use Rattle.jiter_scan.specs.Number as number
use Rattle.jiter_steps.specs.Literal.{start_of}
use Rattle.jiter_steps.specs.Tree.{Text, Tree}
use Rattle.jiter_steps.specs.Tree as tree
use Rattle.jiter_steps.specs.declared.parse.Literal.TheVariants as literal
use Rattle.jiter_steps.specs.declared.parse.Start.{Start}
use Rattle.jiter_steps.specs.declared.parse.Start.TheVariants as start
use Rattle.jiter.specs.Cause.{ValueType, null, bool, int, float, string, array, object, wrong_type}
use Rattle.jiter.specs.Reader.{ReaderState, Reply, gave, refused, value_place, peek, next, str_read, bool_read, int_read}
use Rattle.jiter.specs.Reader.{null_read, number_read, number_bytes_read, skip_read, value_read}

-- the type of a value
abbrev pub tree_type : Tree → ValueType
tree_type tree.null = null
tree_type (tree.boolean b) = bool
tree_type (tree.int z) = int
tree_type (tree.big s) = int
tree_type (tree.float s) = float
tree_type (tree.string s) = string
tree_type (tree.array is) = array
tree_type (tree.object ms) = object

-- another type was wanted than that of the value that begins at b
abbrev pub other_type : {A : Type 0} → ValueType → Tree → ℕ → Reply A
other_type wanted v b = refused (wrong_type wanted (tree_type v)) b b

-- a text is wanted of the value from b to e
abbrev pub str_told : Tree → ℕ → ℕ → Reply Text
str_told (tree.string s) b e = gave s e
str_told v b e = other_type string v b

-- `true` or `false`
abbrev pub bool_told : Tree → ℕ → ℕ → Reply Bool
bool_told (tree.boolean x) b e = gave x e
bool_told v b e = other_type bool v b

-- an integer
abbrev pub int_told : Tree → ℕ → ℕ → Reply Number
int_told (tree.int z) b e = gave (integer z) e
int_told (tree.big s) b e = gave (number.big s.bytes) e
int_told v b e = other_type int v b

-- `null`
abbrev pub null_told : Tree → ℕ → ℕ → Reply (Unit {0})
null_told tree.null b e = gave tt e
null_told v b e = other_type null v b

-- a number
abbrev pub number_told : Tree → ℕ → ℕ → Reply Number
number_told (tree.int z) b e = gave (integer z) e
number_told (tree.big s) b e = gave (number.big s.bytes) e
number_told (tree.float s) b e = gave (number.float s.bytes) e
number_told v b e = other_type int v b

-- the source of a number, in the bytes t
abbrev pub number_bytes_told : List ℕ → Tree → ℕ → ℕ → Reply (List ℕ)
number_bytes_told t (tree.int z) b e = gave (slice_range t b e) e
number_bytes_told t (tree.big s) b e = gave (slice_range t b e) e
number_bytes_told t (tree.float s) b e = gave (slice_range t b e) e
number_bytes_told t v b e = other_type float v b

-- what begins there
abbrev pub tree_start : Tree → Start
tree_start tree.null = start.Literal literal.Null
tree_start (tree.boolean true) = start.Literal literal.True
tree_start (tree.boolean false) = start.Literal literal.False
tree_start (tree.int z) = start.Number
tree_start (tree.big s) = start.Number
tree_start (tree.float s) = start.Number
tree_start (tree.string s) = start.String
tree_start (tree.array is) = start.Array
tree_start (tree.object ms) = start.Object

-- This value comes next, from b to e, and calls reply so.
pub record Tells (s : ReaderState) (v : Tree) (b e : ℕ) : Type 0 where
  pub place : value_place s ≡ b
  pub text : next s (str_read s) ≡ str_told v b e
  pub truth : next s (bool_read s) ≡ bool_told v b e
  pub integer : next s (int_read s) ≡ int_told v b e
  pub number : next s (number_read s) ≡ number_told v b e
  pub number_bytes : next s (number_bytes_read s) ≡ number_bytes_told s.text v b e
  pub nothing : next s (null_read s) ≡ null_told v b e
  pub value : next s (value_read s) ≡ gave v e
  pub passed : next s (skip_read s) ≡ gave tt e
  pub peeked : peek s ≡ gave (slice_index s.text b) b
  pub starts : start_of (slice_index s.text b) ≡ tree_start v
