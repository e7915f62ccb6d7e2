-- What a call that may want memory says.
use Rattle.std.specs.Prelude.{Result, Ok, Err}
use Rattle.jiter_scan.specs.declared.errors.Fault.{Fault}
use Rattle.jiter_steps.specs.declared.read_error.ReadError.{ReadError}
use Rattle.jiter_steps.specs.declared.read_error.ReadError.TheVariants as error

-- unless an allocation fails, what was returned meets P
abbrev pub UnlessRefused : {A : Type 0} → Result A ReadError → (Result A Fault → Type 0) → Type 0
UnlessRefused (Ok x) P = P (Ok x)
UnlessRefused (Err (error.Fault f)) P = P (Err f)
UnlessRefused (Err (error.Memory m)) P = Unit {0}

-- where an allocation failed, P
abbrev pub WhereRefused : {A : Type 0} → Result A ReadError → Type 0 → Type 0
WhereRefused (Ok x) P = Unit {0}
WhereRefused (Err (error.Fault f)) P = Unit {0}
WhereRefused (Err (error.Memory m)) P = P
