-- The readings that calls answer with stay within the text; so do their errors, and one of the input's end is at
-- its length.
use Rattle.jiter_steps.proofs.Words.{ℕ, ◌<◌, ◌≤◌, Bool, List, length, arith, none-some, Kind, Scanned, taken, failed}
use Rattle.jiter_steps.proofs.Words.{Span, number_at, PartialMode, ScalarWithin, number_at-within, word_of}
use Rattle.jiter_steps.proofs.Words.{literal_at, Form, whole, raw, string_at, nesting_limit, seen_as, only_ends}
use Rattle.jiter_steps.proofs.Words.{whole_trees, partial_trees, value_form, answer, partial_answer, read_at, skip_at}
use Rattle.jiter_steps.proofs.Words.{Literal, WordWithin, word_at-within, trees}
use Rattle.jiter_steps.specs.declared.parse.Literal.TheVariants as literal
use Rattle.jiter_steps.proofs.Reading.Bounds.{Within}
use Rattle.jiter_steps.proofs.Reading.Values.{Advances, value_at-within}
use Rattle.jiter_steps.proofs.Reading.WholeTexts.{prefix_answer-within, whole_answer-within}
use Rattle.jiter_steps.proofs.Grammar.NodeRules.{nodes}
use Rattle.jiter_steps.proofs.Grammar.StringLaws.{string_at-within}

-- what was read, seen so
pub seen-within : {A B : Type 0} (f : A → ℕ → B) (t : List ℕ) (i : ℕ) (x : Scanned A) → ScalarWithin t i x
    → ScalarWithin t i (seen_as f x)
seen-within f t i (taken a e) h = h
seen-within f t i (failed k j) h = h

-- a literal is a word that is not empty
span-within : (t : List ℕ) (l : Literal) (i : ℕ) (x : Span) → WordWithin t (word_of l) i x → ScalarWithin t i x
span-within t literal.Null i (taken u e) h = (omega (arith, h.0), h.1)
span-within t l i (taken u e) h = (omega (arith, h.0), h.1)
span-within t l i (failed k j) h = h

pub literal_at-within : (t : List ℕ) (l : Literal) (i : ℕ) → i ≤ length t → ScalarWithin t i (literal_at t l i)
literal_at-within t l i le = span-within t l i (literal_at t l i) (word_at-within t (word_of l) i le)

module _ (t : List ℕ) where
  pub trees-advances : (forgives : Kind → Bool) (form : Form) (names : Bool) → Advances (trees forgives form names) t
  trees-advances forgives form names = record {
    literal = λ l i h. seen-within _ t i (literal_at t l i) (literal_at-within t l i (omega arith));
    number = λ i h. seen-within _ t i (number_at names t i) (number_at-within names t i h);
    text = λ i h. seen-within _ t i (string_at form t i) (string_at-within form t i h);
    key = λ i h. string_at-within whole t i h;
    refuses = λ members i j k h e. absurd (none-some _ e);
  }

  pub only_ends-advances : (names : Bool) → Advances (only_ends names) t
  only_ends-advances names = record {
    literal = λ l i h. literal_at-within t l i (omega arith);
    number = λ i h. seen-within _ t i (number_at names t i) (number_at-within names t i h);
    text = λ i h. seen-within _ t i (string_at raw t i) (string_at-within raw t i h);
    key = λ i h. seen-within _ t i (string_at raw t i) (string_at-within raw t i h);
    refuses = λ members i j k h e. absurd (none-some _ e);
  }

  pub nodes-advances : (names : Bool) → Advances (nodes names) t
  nodes-advances names = record {
    literal = λ l i h. seen-within _ t i (literal_at t l i) (literal_at-within t l i (omega arith));
    number = λ i h. seen-within _ t i (number_at names t i) (number_at-within names t i h);
    text = λ i h. seen-within _ t i (string_at whole t i) (string_at-within whole t i h);
    key = λ i h. seen-within _ t i (string_at whole t i) (string_at-within whole t i h);
    refuses = λ members i j k h e. absurd (none-some _ e);
  }

  -- the value at a place, and its end
  pub read_at-within : (names : Bool) (i : ℕ) → i < length t → Within t i (read_at names t i)
  read_at-within names i h = value_at-within (whole_trees names) t (trees-advances _ whole names) nesting_limit i h

  pub skip_at-within : (names : Bool) (i : ℕ) → i < length t → Within t i (skip_at names t i)
  skip_at-within names i h = value_at-within (only_ends names) t (only_ends-advances names) nesting_limit i h

  -- what a parse answers
  pub answer-within : (names : Bool) → Within t 0 (answer names t)
  answer-within names = whole_answer-within (whole_trees names) t (trees-advances _ whole names)

  pub partial_answer-within : (names : Bool) (mode : PartialMode) → Within t 0 (partial_answer names mode t)
  partial_answer-within names mode =
      prefix_answer-within (partial_trees names mode) t (trees-advances _ (value_form mode) names)
