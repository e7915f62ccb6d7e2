-- What a parse promises.
use Rattle.std.specs.Prelude.{◌≡◌, ◌⊎◌, ℕ, ◌+◌, ◌≤◌, Bool, true, List, ◌++◌, length, take, Option, Some, Result, Ok}
use Rattle.std.specs.Prelude.{Err, IfOk, IfErr, MatchResult}
use Rattle.std.specs.Option.{option_map}
use Rattle.jiter_scan.specs.Kind.{Kind, kind_of, is_end_kind}
use Rattle.jiter_scan.specs.PartialMode.{is_active}
use Rattle.jiter_scan.specs.declared.errors.JsonError.{JsonError}
use Rattle.jiter_scan.specs.declared.errors.JsonErrorType.TheVariants.{OutOfMemory}
use Rattle.jiter_scan.specs.declared.partial_mode.PartialMode.{PartialMode}
use Rattle.jiter_scan.specs.declared.partial_mode.PartialMode.TheVariants.{Off}
use Rattle.jiter_steps.specs.Answer.{answer_in}
use Rattle.jiter_steps.specs.Blank.{past_blanks}
use Rattle.jiter_steps.specs.Cut.{cut, IsBegunContainer}
use Rattle.jiter_steps.specs.FirstFault.{IsDeadEnd, can_go_on, CanBeCompleted}
use Rattle.jiter_steps.specs.Node.{Node, IsDocument, IsCutContainer, value_of}
use Rattle.jiter_steps.specs.Read.{Reading, done, fault}
use Rattle.jiter_steps.specs.Tree.{Tree}
use Rattle.jiter_value.specs.Value.{view}
use Rattle.jiter_value.specs.declared.value.JsonValue.{JsonValue}

-- What becomes of the tree that was read: nothing, or its texts are owned (`owned_tree`).
abbrev pub as_read : Tree → Tree
as_read v = v

-- a reading, its tree made so
abbrev pub reading_as : (Tree → Tree) → Reading Tree → Reading Tree
reading_as made (done v e) = done (made v) e
reading_as made (fault k i stop) = fault k i stop

-- Of a call that refuses with an E: what its error tells, what a document is to it, and what it answers.
pub record Manner (E : Type 0) : Type 1 where
  -- an error's kind, where it is, and that an allocation failed
  pub kind : E → Kind
  pub index : E → ℕ
  pub IsMemory : E → Type 0
  -- the text is a document, spelled by the node
  pub Spells : List ℕ → Node → Type 0
  -- the text is a prefix of a document that is an array or an object: with its first bracket, and what the cut leaves
  -- of the document then; and without its last bracket
  pub Begun : List ℕ → Type 0
  pub left : PartialMode → (t : List ℕ) → Begun t → Option Tree
  pub Short : List ℕ → Type 0
  -- the reading of a text
  pub reading : PartialMode → List ℕ → Reading Tree

-- no document begins with these bytes
abbrev pub BeginsNone : (List ℕ → Node → Type 0) → List ℕ → Type 0
BeginsNone Spells prefix = (rest : List ℕ) (n : Node) → Spells (prefix ++ rest) n → ⊥

-- What a parse returns: the value that was read, or the error's kind and index, unless an allocation fails.
abbrev pub AnswersBy : {E : Type 0} → Manner E → Result JsonValue E → Reading Tree → Type 0
AnswersBy by (Ok v) r = (e : ℕ) × (r ≡ done (view v) e)
AnswersBy by (Err e) r = by.IsMemory e ⊎ ((stop : ℕ) × (r ≡ fault (by.kind e) (by.index e) stop))

-- What a parse of the text t promises, with these names and in this mode: what becomes of the tree that is read, and
-- where memory may be wanted, are the call's own.
pub record ParsesBy {E : Type 0} (by : Manner E) (made : Tree → Tree) (Grows : Type 0) (names : Bool)
    (mode : PartialMode) (t : List ℕ) (result : Result JsonValue E) : Type 0 where
  -- With partial reading off a value is that of a document that the bytes spell.
  pub found : mode ≡ Off → IfOk result (λ v. (n : Node) × by.Spells t n × (made (value_of t n) ≡ view v))
  -- In every mode a document is answered with its value, unless an allocation fails.
  pub accepts : (n : Node) → by.Spells t n
      → MatchResult result (λ v. view v ≡ made (value_of t n)) (λ e. by.IsMemory e)
  -- In a partial mode a prefix of an array or an object, its first bracket in it, is answered with exactly the
  -- document's cut there, unless an allocation fails.
  pub cut : is_active mode ≡ true → (f : by.Begun t)
      → MatchResult result (λ v. option_map made (by.left mode t f) ≡ Some (view v)) (λ e. by.IsMemory e)
  -- With partial reading off: the value, or the first error of a reading from the left.
  pub first : mode ≡ Off → AnswersBy by result (reading_as made (by.reading Off t))
  -- On any bytes: what that reading answers in this mode.
  pub answer : AnswersBy by result (reading_as made (by.reading mode t))
  -- With partial reading off: no document begins with the bytes up to the error.
  pub dead : mode ≡ Off
      → IfErr result (λ e. IsDeadEnd (by.kind e) → BeginsNone by.Spells (take (by.index e + 1) t))
  -- With partial reading off: the bytes before the error, little more and closers are a document, which may have
  -- repeated keys in every manner.
  pub alive : mode ≡ Off
      → IfErr result (λ e. can_go_on (by.kind e) ≡ true → CanBeCompleted names (take (by.index e) t))
  -- No error is past the length, and one of the input's end is there.
  pub index : IfErr result (λ e. by.index e ≤ length t)
  pub ends : IfErr result (λ e. is_end_kind (by.kind e) ≡ true → by.index e ≡ length t)
  -- With partial reading off: an array or an object without its last bracket is refused, since the input ends too
  -- early, unless memory is.
  pub early : mode ≡ Off → by.Short t
      → MatchResult result (λ v. ⊥) (λ e. by.IsMemory e ⊎ (is_end_kind (by.kind e) ≡ true))
  -- Memory may be the answer only where the call may want some, and from the value's first byte on.
  pub memory : IfErr result (λ e. by.IsMemory e → Grows)
  pub place : IfErr result (λ e. by.IsMemory e → past_blanks t 0 ≤ by.index e)

-- The manner of every call that keeps repeated keys.
abbrev pub keeping_repeats : Bool → Manner JsonError
keeping_repeats names = record {
  kind = λ e. kind_of e.error_type;
  index = λ e. e.index;
  IsMemory = λ e. e.error_type ≡ OutOfMemory;
  Spells = λ t n. IsDocument names t n;
  Begun = λ t. IsBegunContainer names t;
  left = λ mode t f. cut names f.text f.node f.place mode;
  Short = λ t. IsCutContainer names t;
  reading = λ mode t. answer_in names mode t;
}

abbrev pub Parses : (Tree → Tree) → Type 0 → Bool → PartialMode → List ℕ → Result JsonValue JsonError → Type 0
Parses made Grows names mode t result = ParsesBy (keeping_repeats names) made Grows names mode t result
