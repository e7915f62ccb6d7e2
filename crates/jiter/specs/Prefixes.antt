-- Two prefixes of one document: what their readings answer, and how one value goes on where the other stopped.
use Rattle.std.specs.Prelude.{◌≡◌, ◌⊎◌, ◌<◌, ◌≤◌, ℕ, Bool, true, List, length, take, Result, Ok, Err}
use Rattle.jiter_scan.specs.PartialMode.{is_active}
use Rattle.jiter_scan.specs.declared.errors.JsonError.{JsonError}
use Rattle.jiter_scan.specs.declared.partial_mode.PartialMode.{PartialMode}
use Rattle.jiter_steps.specs.Answer.{answer_in}
use Rattle.jiter_steps.specs.Cut.{IsBegunContainer}
use Rattle.jiter_steps.specs.Extends.{Extends, CutsNoNumber}
use Rattle.jiter_steps.specs.Node.{Node, begin}
use Rattle.jiter_steps.specs.Tree.{Tree}
use Rattle.jiter_value.specs.Parses.{Parses, as_read, reading_as}
use Rattle.jiter_value.specs.Value.{view, Answers, MayGrow}
use Rattle.jiter_value.specs.declared.value.JsonValue.{JsonValue}

-- what `parse_with_config` promises of the bytes before k
abbrev pub ParsesPrefix : Bool → PartialMode → List ℕ → ℕ → Result JsonValue JsonError → Type 0
ParsesPrefix names mode t k r = Parses as_read (MayGrow (take k t)) names mode (take k t) r

-- Two calls, the second made only where the first gave a value: both values, or the first error.
abbrev pub OneThenOther : (Result JsonValue JsonError → Type 0) → (Result JsonValue JsonError → Type 0)
    → Result (JsonValue × JsonValue) JsonError → Type 0
OneThenOther One Other (Ok p) = One (Ok p.0) × Other (Ok p.1)
OneThenOther One Other (Err e) = One (Err e) ⊎ ((v : JsonValue) × One (Ok v) × Other (Err e))

-- A place of a document after its first bracket and within none of its numbers.
pub record IsCleanCut (n : Node) (k : ℕ) : Type 0 where
  pub begun : begin n < k
  pub numbers : CutsNoNumber k n

-- What was shown stays, and grows: u is a prefix of a document that is an array or an object, cut cleanly at k; then in
-- a partial mode the value that a parse answers of u extends the one that a parse answers of the bytes before k. `made`
-- is what both make of the trees that they read.
abbrev pub PrefixesGrow : (Tree → Tree) → Type 0
PrefixesGrow made =
    (names : Bool) (mode : PartialMode) (u : List ℕ) (f : IsBegunContainer names u) (k : ℕ) (v w : JsonValue)
    → is_active mode ≡ true → IsCleanCut f.node k → k ≤ length u
    → Answers (Ok v) (reading_as made (answer_in names mode (take k u)))
    → Answers (Ok w) (reading_as made (answer_in names mode u)) → Extends (view v) (view w)
