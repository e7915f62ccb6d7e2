-- A parser of a document that comes in chunks: what it holds of the bytes that were pushed, and what they answer.
use Rattle.std.specs.Prelude.{◌≡◌, ℕ, ◌+◌, ◌≤◌, ◌<◌, ◌^◌, Bool, Err, List, None, Ok, Option, Some, length}
use Rattle.jiter_scan.specs.declared.errors.JsonError.{JsonError}
use Rattle.jiter_scan.specs.declared.partial_mode.PartialMode.TheVariants.{Off}
use Rattle.jiter_steps.specs.Node.{nesting_limit}
use Rattle.jiter_incremental.specs.Document.{HasArrived}
use Rattle.jiter_incremental.specs.Reader.{document}
use Rattle.jiter_value.specs.Owned.{owned_tree}
use Rattle.jiter_value.specs.Parses.{Parses}
use Rattle.jiter_value.specs.Value.{view}
use Rattle.jiter_incremental.specs.declared.reader.Reader.{Reader}
use Rattle.jiter_value.specs.declared.parse.settings.Settings.{Settings}
use Rattle.jiter_value.specs.declared.value.JsonValue.{JsonValue}

-- How the document is read, how many bytes were taken, and all that is held of them.
pub record Received : Type 0 where
  pub settings : Settings
  pub position : ℕ
  pub reader : Reader
  pub root : JsonValue

abbrev pub received : Reader → JsonValue → Received
received r v = record { settings = r.settings; position = r.base + r.at; reader = r; root = v }

-- The parser has received the bytes t, and is between two chunks.
pub record HasReceived (p : Received) (t : List ℕ) : Type 0 where
  pub arrived : HasArrived (document p.reader (view p.root)) t
  pub between : p.reader.at ≡ 0
  pub low : p.reader.depth ≤ nesting_limit + 1
  pub settings : p.settings ≡ p.reader.settings
  pub position : p.position ≡ length t
  pub room : p.position < 2 ^ 64

-- Read as a whole with partial reading off, these bytes have this error, or, where there is none, a value.
abbrev pub WouldFinish : Bool → List ℕ → Option JsonError → Type 0
WouldFinish names t (Some e) = Parses owned_tree ⊥ names Off t (Err e)
WouldFinish names t None = (v : JsonValue) × Parses owned_tree ⊥ names Off t (Ok v)
