-- What the reading of a whole text returns.
use Rattle.std.specs.Prelude.{◌≡◌, ℕ, Result, Ok, Err}
use Rattle.jiter_scan.specs.Kind.{kind_of, fault_kind}
use Rattle.jiter_scan.specs.declared.errors.Fault.{Fault}
use Rattle.jiter_scan.specs.declared.errors.JsonError.{JsonError}
use Rattle.jiter_scan.specs.declared.errors.JsonErrorType.TheVariants.{OutOfMemory}
use Rattle.jiter_steps.specs.Tree.{Tree}
use Rattle.jiter_steps.specs.Read.{Reading, done, fault}
use Rattle.jiter_steps.specs.ReadError.{UnlessRefused}
use Rattle.jiter_steps.specs.declared.read_error.ReadError.{ReadError}
use Rattle.jiter_steps.specs.declared.read_error.ReadError.TheVariants as error
use Rattle.jiter_value.specs.Value.{view}
use Rattle.jiter_value.specs.declared.value.JsonValue.{JsonValue}

-- What was returned of a whole text is this reading, unless an allocation fails; an error leaves the reader at i.
abbrev pub ReadsWhole : Result JsonValue Fault → ℕ → Reading Tree → Type 0
ReadsWhole (Ok v) i r = (e : ℕ) × (r ≡ done (view v) e)
ReadsWhole (Err f) i r = r ≡ fault (fault_kind f.kind) f.index i

abbrev pub GivesWhole : Result JsonValue ReadError → ℕ → Reading Tree → Type 0
GivesWhole result i r = UnlessRefused result (λ x. ReadsWhole x i r)

-- The error that a public call answers, where the reader is at i: the error, or a failed allocation there.
abbrev pub IsErrorOf : ReadError → ℕ → JsonError → Type 0
IsErrorOf (error.Fault f) i e = (kind_of e.error_type ≡ fault_kind f.kind) × (e.index ≡ f.index)
IsErrorOf (error.Memory m) i e = e ≡ record { error_type = OutOfMemory; index = i }
