-- What the client builds of a text: the value that is read, each of its texts owned.
use Rattle.std.specs.Prelude.{ℕ, Bool, true, List, ◌⊎◌, None}
use Rattle.jiter_scan.specs.NumberReading.{number_at}
use Rattle.jiter_steps.specs.Literal.{literal_at, literal_tree}
use Rattle.jiter_steps.specs.StringReading.{whole, string_at}
use Rattle.jiter_steps.specs.Tree.{Text, Tree, items_of, members_of}
use Rattle.jiter_steps.specs.Tree as tree
use Rattle.jiter_steps.specs.Node.{number_tree}
use Rattle.jiter_steps.specs.Read.{Rules, inside_at, value_with}
use Rattle.jiter_steps.specs.Answer.{seen_as, nothing_forgiven, read_at}
use Rattle.jiter_steps.specs.declared.parse.Literal.TheVariants as literal
use Rattle.jiter_steps.specs.declared.parse.Start.{Start}
use Rattle.jiter_steps.specs.declared.parse.Start.TheVariants as start
use Rattle.jiter_value.specs.Owned.{owned_text, owned_tree, ReadHolds}
use Rattle.jiter_value.specs.Value.{MayGrowAt}
use Rattle.jiter.specs.Reader.{ReaderState, Reply, value_reply}

-- values as trees that own their texts
abbrev pub owned_trees : Bool → Rules Text Tree
owned_trees names = record {
  forgives = nothing_forgiven;
  literal = λ t l i. seen_as (λ u e. literal_tree l) (literal_at t l i);
  number = λ t i. seen_as (λ n e. owned_tree (number_tree n)) (number_at names t i);
  text = λ t i. seen_as (λ s e. tree.string (owned_text s)) (string_at whole t i);
  key = λ t i. seen_as (λ s e. owned_text s) (string_at whole t i);
  refuses = λ members t i. None;
  array = λ b e items. tree.array (items_of items);
  object = λ b e members. tree.object (members_of members);
}

-- a text in memory of its own
abbrev pub own_text : List ℕ → Text
own_text bytes = record { owned = true; bytes = bytes }

-- The value that begins so where the reader is, with levels left for so many containers inside it that are not
-- empty.
abbrev pub built : ReaderState → ℕ → Start → Reply Tree
built s levels b =
    value_reply (value_with (owned_trees s.names) (inside_at (owned_trees s.names) s.text levels) s.text s.position b)

-- The value at i inside a container with so many levels left.
abbrev pub built_inside : ReaderState → ℕ → ℕ → Reply Tree
built_inside s levels i = value_reply (inside_at (owned_trees s.names) s.text levels i)

-- The value where the reader is, each text owned, may want memory: reading it does, or it is read with a borrowed
-- text or a part.
abbrev pub OwnedMayGrowAt : ReaderState → Type 0
OwnedMayGrowAt s = MayGrowAt s.text s.position ⊎ ReadHolds (read_at s.names s.text s.position)

-- `true` or `false` begins so, or nothing does
abbrev pub IsTruthOrNothing : Start → Type 0
IsTruthOrNothing (start.Literal literal.True) = Unit {0}
IsTruthOrNothing (start.Literal literal.False) = Unit {0}
IsTruthOrNothing start.Nothing = Unit {0}
IsTruthOrNothing b = ⊥
