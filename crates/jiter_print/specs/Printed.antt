-- What is printed, read again: the same value, wherever its texts lie.
use Rattle.std.specs.Prelude.{ℕ, Bool, false, List}
use Rattle.jiter_steps.specs.Node.{Node, IsDocument, value_of}
use Rattle.jiter_steps.specs.Tree.{Tree, string}
use Rattle.jiter_steps.specs.Read.{Reading, done, fault}
use Rattle.jiter_value.specs.Owned.{HoldSame}
use Rattle.jiter_print.specs.Print.{print_of, with_line_feed}

-- the value of a string
abbrev pub string_from : List ℕ → Tree
string_from bs = string (record { owned = false; bytes = bs })

-- a line that is a document of this value
abbrev pub IsLineOf : Bool → Tree → List ℕ → Type 0
IsLineOf names v line = (n : Node) × IsDocument names line n × HoldSame (value_of line n) v

-- what is printed of what was read, a line feed after it, is a document of the same value under the same setting
abbrev pub PrintsAgain : Bool → Reading Tree → Type 0
PrintsAgain names (done v e) = IsLineOf names v (with_line_feed (print_of v))
PrintsAgain names (fault kind i stop) = Unit {0}
