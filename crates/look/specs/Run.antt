-- What a whole run writes.
use Rattle.std.specs.Prelude.{◌≡◌, ◌≢◌, ℕ, Bool, if◌then◌else◌, List, [], Option, Some, None, ⊤}
use Rattle.std.specs.Io.KnownBytes.{Keeps, Appends}
use Rattle.jiter_scan.specs.Position.{description_text}
use Rattle.jiter_steps.specs.Tree.{Tree}
use Rattle.jiter_steps.specs.Read.{Reading, done, fault}
use Rattle.jiter_scan.specs.declared.partial_mode.PartialMode.{PartialMode}
use Rattle.jiter_steps.specs.Answer.{answer_in}
use Rattle.jiter_steps.specs.Unique.{unique_answer_in}
use Rattle.jiter_value.specs.UniqueErrors.{IsMemoryRefused}
use Rattle.jiter_print.specs.Print.{print_of, with_line_feed}
use Rattle.jiter_print.specs.Written.{AppendsPrefix}
use Rattle.look.specs.declared.running.End.{End}
use Rattle.look.specs.declared.running.End.TheVariants.{Shown, Refused, Failed}
use Rattle.jiter_scan.specs.declared.errors.JsonErrorType.TheVariants.{OutOfMemory}
use Rattle.look.specs.declared.running.NoMemory as refusal
use Rattle.look.specs.declared.running.NoMemory.TheVariants as reason
use Rattle.look.specs.declared.running.NoLine as absence
use Rattle.look.specs.declared.running.NoLine.TheVariants as cause
use Rattle.look.specs.declared.running.Line as code
use Rattle.look.specs.declared.running.Line.TheVariants as variant

-- the one line that a run writes, and where: a value to one writer, an error to the other
pub data Line : Type 0 where
  value_line : List ℕ → Line
  fault_line : List ℕ → Line

-- the line for what a text was read as
abbrev pub line_for : Reading Tree → List ℕ → Line
line_for (done v e) t = value_line (with_line_feed (print_of v))
line_for (fault kind i stop) t = fault_line (with_line_feed (description_text kind i t))

-- what a text is read as in this mode, a repeated key refused or kept
abbrev pub reading_of : Bool → Bool → PartialMode → List ℕ → Reading Tree
reading_of inf_nan unique mode t = if unique then unique_answer_in inf_nan mode t else answer_in inf_nan mode t

-- the line for a text, read so
abbrev pub line_of : Bool → Bool → PartialMode → List ℕ → Line
line_of inf_nan unique mode t = line_for (reading_of inf_nan unique mode t) t

-- known bytes are left
abbrev pub IsUnread : Option (List ℕ) → Type 0
IsUnread None = ⊥
IsUnread (Some left) = left ≢ []

-- a run that failed, and both writers as they were
abbrev pub WroteNothing : End → Option (List ℕ) → Option (List ℕ) → Option (List ℕ) → Option (List ℕ) → Type 0
WroteNothing end out out' err err' = (end ≡ Failed) × Keeps out out' × Keeps err err'

-- what the two writers hold after a run: the line in its own, a prefix of it where the run failed, nothing new in the
-- other
abbrev pub Wrote : Line → End → Option (List ℕ) → Option (List ℕ) → Option (List ℕ) → Option (List ℕ) → Type 0
Wrote (value_line bs) Shown out out' err err' = Appends out out' bs × Keeps err err'
Wrote (value_line bs) Refused out out' err err' = ⊥
Wrote (value_line bs) Failed out out' err err' = AppendsPrefix out out' bs × Keeps err err'
Wrote (fault_line bs) Shown out out' err err' = ⊥
Wrote (fault_line bs) Refused out out' err err' = Keeps out out' × Appends err err' bs
Wrote (fault_line bs) Failed out out' err err' = Keeps out out' × AppendsPrefix err err' bs

-- the same, where there may be no line
abbrev pub WroteIfAny : Option Line → End → Option (List ℕ) → Option (List ℕ) → Option (List ℕ) → Option (List ℕ)
    → Type 0
WroteIfAny None end out out' err err' = WroteNothing end out out' err err'
WroteIfAny (Some line) end out out' err err' = Wrote line end out out' err err'

-- the line that the code holds
abbrev pub line_view : code.Line → Line
line_view (variant.Value v) = value_line v.items
line_view (variant.Fault v) = fault_line v.items

-- where an allocation failed: of the parse's own errors only that one
abbrev pub IsOfMemory : refusal.NoMemory → Type 0
IsOfMemory (reason.Parse e) = e.error_type ≡ OutOfMemory
IsOfMemory (reason.ParseUnique e) = IsMemoryRefused e.error_type
IsOfMemory (reason.Line e) = ⊤

-- where a read failed or an allocation failed
abbrev pub IsOfReadOrMemory : absence.NoLine → Type 0
IsOfReadOrMemory (cause.Read e) = ⊤
IsOfReadOrMemory (cause.Make m) = IsOfMemory m

-- the program's exit status
abbrev pub status_of : End → ℕ
status_of Shown = 0
status_of Refused = 1
status_of Failed = 3
