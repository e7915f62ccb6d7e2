-- How a document is read, and what its reading answers.
use Rattle.std.specs.Prelude.{ℕ, Bool, false, true, if◌then◌else◌, List, map, Option, None}
use Rattle.jiter_scan.specs.Kind.{Kind, is_forgiven}
use Rattle.jiter_scan.specs.PartialMode.{is_active}
use Rattle.jiter_scan.specs.declared.partial_mode.PartialMode.{PartialMode}
use Rattle.jiter_scan.specs.NumberReading.{number_at}
use Rattle.jiter_steps.specs.Tree.{Text, Tree, items_of, members_of}
use Rattle.jiter_steps.specs.Tree as tree
use Rattle.jiter_steps.specs.Read.{Rules, Reading, prefix_answer, whole_answer}
use Rattle.jiter_steps.specs.Answer.{trees, seen_as, nothing_forgiven, value_form, answer_in}
use Rattle.jiter_steps.specs.Literal.{literal_at, literal_tree}
use Rattle.jiter_steps.specs.Node.{number_tree}
use Rattle.jiter_steps.specs.StringReading.{whole, string_at}
use Rattle.jiter_steps.specs.Unique.{own_bytes, repeated_key}
use Rattle.jiter_value.specs.Owned.{as_it_is, tree_as}
use Rattle.jiter_value.specs.declared.parse.settings.Settings.{Settings}

-- what a mode forgives inside a container
abbrev pub forgives : PartialMode → Kind → Bool
forgives mode = if is_active mode then is_forgiven else nothing_forgiven

abbrev pub rules : Settings → Rules Text Tree
rules p = trees (forgives p.mode) (value_form p.mode) p.allow_inf_nan

-- What a reading keeps: what becomes of each text that is read, and whether a key is refused that its object has
-- already.
pub record TextPolicy : Type 0 where
  pub text : Text → Text
  pub unique : Bool

-- each text made so, repeated keys kept
abbrev pub each : (Text → Text) → TextPolicy
each policy = record { text = policy; unique = false }

-- each text borrowed where it lies, repeated keys kept; and refused
abbrev pub borrowed : TextPolicy
borrowed = each as_it_is

abbrev pub borrowed_unique : TextPolicy
borrowed_unique = record { text = as_it_is; unique = true }

-- the error of a key that these members of its object, which are before it, make
abbrev pub refused_as : TextPolicy → List (Text × Tree) → List ℕ → ℕ → Option (Kind × ℕ)
refused_as policy members t i =
    if policy.unique then repeated_key own_bytes (map (λ m. own_bytes m.0) members) t (string_at whole t i) else None

-- The same rules, where this is kept of what is read.
abbrev pub rules_as : TextPolicy → Settings → Rules Text Tree
rules_as policy p = record {
  forgives = forgives p.mode;
  literal = λ t l i. seen_as (λ u e. literal_tree l) (literal_at t l i);
  number = λ t i. seen_as (λ n e. tree_as policy.text (number_tree n)) (number_at p.allow_inf_nan t i);
  text = λ t i. seen_as (λ s e. tree.string (policy.text s)) (string_at (value_form p.mode) t i);
  key = λ t i. seen_as (λ s e. policy.text s) (string_at whole t i);
  refuses = λ members t i. refused_as policy members t i;
  array = λ b e items. tree.array (items_of items);
  object = λ b e members. tree.object (members_of members);
}

-- what a text answers by these rules: in a partial mode its value, whatever follows it
abbrev pub answer_with : PartialMode → Rules Text Tree → List ℕ → Reading Tree
answer_with mode r t = if is_active mode then prefix_answer r t else whole_answer r t

abbrev pub answer_as : TextPolicy → Settings → List ℕ → Reading Tree
answer_as policy p t = answer_with p.mode (rules_as policy p) t

-- what a text answers
abbrev pub answer_by : Settings → List ℕ → Reading Tree
answer_by p t = answer_in p.allow_inf_nan p.mode t
