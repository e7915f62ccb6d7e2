-- The readings that the calls answer with: of a whole document, of a cut one, and of the end alone.
use Rattle.std.specs.Prelude.{ℕ, Bool, false, if◌then◌else◌, List, None}
use Rattle.jiter_scan.specs.Kind.{Kind, is_forgiven}
use Rattle.jiter_scan.specs.Scanned.{Scanned, taken, failed}
use Rattle.jiter_scan.specs.NumberReading.{number_at}
use Rattle.jiter_scan.specs.PartialMode.{allows_trailing_strings, is_active}
use Rattle.jiter_scan.specs.declared.partial_mode.PartialMode.{PartialMode}
use Rattle.jiter_steps.specs.Literal.{literal_at, literal_tree}
use Rattle.jiter_steps.specs.StringReading.{Form, whole, raw, text_form, string_at}
use Rattle.jiter_steps.specs.Tree.{Text, Tree, items_of, members_of}
use Rattle.jiter_steps.specs.Tree as tree
use Rattle.jiter_steps.specs.Node.{nesting_limit, number_tree}
use Rattle.jiter_steps.specs.Read.{Rules, Reading, prefix_answer, whole_answer, value_at}

-- what was read, seen so, with the place that it ends at
abbrev pub seen_as : {A B : Type 0} → (A → ℕ → B) → Scanned A → Scanned B
seen_as f (taken a e) = taken (f a e) e
seen_as f (failed k j) = failed k j

abbrev pub nothing_forgiven : Kind → Bool
nothing_forgiven k = false

-- values as trees; strings in this form, keys always whole
abbrev pub trees : (Kind → Bool) → Form → Bool → Rules Text Tree
trees forgives form names = record {
  forgives = forgives;
  literal = λ t l i. seen_as (λ u e. literal_tree l) (literal_at t l i);
  number = λ t i. seen_as (λ n e. number_tree n) (number_at names t i);
  text = λ t i. seen_as (λ s e. tree.string s) (string_at form t i);
  key = λ t i. string_at whole t i;
  refuses = λ members t i. None;
  array = λ b e items. tree.array (items_of items);
  object = λ b e members. tree.object (members_of members);
}

-- ends alone: strings and keys between their quotes, no value made
abbrev pub only_ends : Bool → Rules (Unit {0}) (Unit {0})
only_ends names = record {
  forgives = nothing_forgiven;
  literal = λ t l i. literal_at t l i;
  number = λ t i. seen_as (λ n e. tt) (number_at names t i);
  text = λ t i. seen_as (λ s e. tt) (string_at raw t i);
  key = λ t i. seen_as (λ s e. tt) (string_at raw t i);
  refuses = λ members t i. None;
  array = λ b e items. tt;
  object = λ b e members. tt;
}

-- With partial reading off: the value, or the first error.
abbrev pub whole_trees : Bool → Rules Text Tree
whole_trees names = trees nothing_forgiven whole names

abbrev pub answer : Bool → List ℕ → Reading Tree
answer names t = whole_answer (whole_trees names) t

abbrev pub value_form : PartialMode → Form
value_form mode = text_form (allows_trailing_strings mode)

-- In a partial mode six kinds are forgiven inside a container, and what follows the value is not looked at.
abbrev pub partial_trees : Bool → PartialMode → Rules Text Tree
partial_trees names mode = trees is_forgiven (value_form mode) names

abbrev pub partial_answer : Bool → PartialMode → List ℕ → Reading Tree
partial_answer names mode t = prefix_answer (partial_trees names mode) t

-- What a parse in this mode answers.
abbrev pub answer_in : Bool → PartialMode → List ℕ → Reading Tree
answer_in names mode t = if is_active mode then partial_answer names mode t else answer names t

-- The value at a place, with nothing round it.
abbrev pub read_at : Bool → List ℕ → ℕ → Reading Tree
read_at names t i = value_at (whole_trees names) t nesting_limit i

-- Where the value at a place ends; its UTF-8 is not tested.
abbrev pub skip_at : Bool → List ℕ → ℕ → Reading (Unit {0})
skip_at names t i = value_at (only_ends names) t nesting_limit i
