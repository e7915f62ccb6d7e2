-- What is held of an input that has arrived in part.
use Rattle.std.specs.Prelude.{◌≡◌, List, ℕ}
use Rattle.jiter_incremental.specs.Caller.{HasReceived, Received}
use Rattle.json_screen.specs.Parts.{inside_of, parts, parts_of}
use Rattle.json_screen.specs.declared.input.Input.{Input}
use Rattle.json_screen.specs.declared.input.Options.{Options}

-- The bytes t are read as the options ask: their value so far is held.
pub record ReadsAs (options : Options) (document : Received) (t : List ℕ) : Type 0 where
  pub received : HasReceived document t
  pub names : document.settings.allow_inf_nan ≡ options.inf_nan
  pub mode : document.settings.mode ≡ options.mode

-- The bytes t have arrived: their parts are held, and the document is read as the options ask.
pub record HasArrived (options : Options) (input : Input) (t : List ℕ) : Type 0 where
  pub split : parts input ≡ parts_of t
  pub read : ReadsAs options input.document (inside_of t)
