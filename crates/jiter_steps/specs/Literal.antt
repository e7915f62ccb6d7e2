-- The three literals (RFC 8259, 3), and what a value's first byte says.
use Rattle.std.specs.Prelude.{ℕ, ◌==◌, true, false, if◌then◌else◌, List, codes}
use Rattle.jiter_scan.specs.Ascii as ascii
use Rattle.jiter_scan.specs.Word.{Span, word_at}
use Rattle.jiter_scan.specs.NumberReading.{begins_number}
use Rattle.jiter_steps.specs.Tree.{Tree, null, boolean}
use Rattle.jiter_steps.specs.declared.parse.Literal.{Literal}
use Rattle.jiter_steps.specs.declared.parse.Literal.TheVariants as literal
use Rattle.jiter_steps.specs.declared.parse.Start.{Start}
use Rattle.jiter_steps.specs.declared.parse.Start.TheVariants as start

-- its letters
abbrev pub word_of : Literal → List ℕ
word_of literal.Null = codes "null"
word_of literal.True = codes "true"
word_of literal.False = codes "false"

-- its tree
abbrev pub literal_tree : Literal → Tree
literal_tree literal.Null = null
literal_tree literal.True = boolean true
literal_tree literal.False = boolean false

-- the literal that is at i, and its end
abbrev pub literal_at : List ℕ → Literal → ℕ → Span
literal_at t l i = word_at t (word_of l) i

-- what kind of value a byte begins
abbrev pub start_of : ℕ → Start
start_of c =
    if c == ascii.left_bracket then start.Array
    else (if c == ascii.left_brace then start.Object
    else (if c == ascii.quote then start.String
    else (if c == ascii.small_n then start.Literal literal.Null
    else (if c == ascii.small_t then start.Literal literal.True
    else (if c == ascii.small_f then start.Literal literal.False
    else (if begins_number c then start.Number
    else start.Nothing))))))
