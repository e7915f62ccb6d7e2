-- What a parse promises that refuses repeated keys.
use Rattle.std.specs.Prelude.{ℕ, Bool, List, Result}
use Rattle.jiter_scan.specs.declared.partial_mode.PartialMode.{PartialMode}
use Rattle.jiter_steps.specs.Cut.{cut, IsBegunContainer}
use Rattle.jiter_steps.specs.Node.{IsCutContainer}
use Rattle.jiter_steps.specs.Unique.{HasUniqueKeys, IsUniqueDocument, unique_answer_in}
use Rattle.jiter_value.specs.Parses.{Manner, ParsesBy, as_read}
use Rattle.jiter_value.specs.UniqueErrors.{unique_kind, IsMemoryRefused}
use Rattle.jiter_value.specs.Value.{MayGrow}
use Rattle.jiter_value.specs.declared.parse.unique_error.UniqueError.{UniqueError}
use Rattle.jiter_value.specs.declared.value.JsonValue.{JsonValue}

-- The manner of a call that refuses repeated keys: its documents have none.
abbrev pub refusing_repeats : Bool → Manner UniqueError
refusing_repeats names = record {
  kind = λ e. unique_kind e.error_type;
  index = λ e. e.index;
  IsMemory = λ e. IsMemoryRefused e.error_type;
  Spells = λ t n. IsUniqueDocument names t n;
  Begun = λ t. (f : IsBegunContainer names t) × HasUniqueKeys f.node;
  left = λ mode t f. cut names f.0.text f.0.node f.0.place mode;
  Short = λ t. (c : IsCutContainer names t) × HasUniqueKeys c.node;
  reading = λ mode t. unique_answer_in names mode t;
}

abbrev pub ParsesUnique : Bool → PartialMode → List ℕ → Result JsonValue UniqueError → Type 0
ParsesUnique names mode t result = ParsesBy (refusing_repeats names) as_read (MayGrow t) names mode t result
