-- What the calls of the reader say, and where they leave it.
use Rattle.std.specs.Prelude.{◌≡◌, ◌≤◌, ℕ, Result, Ok, Err}
use Rattle.jiter_scan.specs.Kind.{fault_kind}
use Rattle.jiter_scan.specs.Scanned.{taken, failed}
use Rattle.jiter_scan.specs.Word.{Span}
use Rattle.jiter_scan.specs.declared.errors.Fault.{Fault}
use Rattle.jiter_steps.specs.Read.{Reading, done, fault}
use Rattle.jiter_steps.specs.ReadError.{UnlessRefused}
use Rattle.jiter_steps.specs.declared.parse.Parser.{Parser}
use Rattle.jiter_steps.specs.declared.read_error.ReadError.{ReadError}

-- How a call moves the reader: over the same bytes, and never back.
pub record NeverMovesBack (old new : Parser) : Type 0 where
  pub same : new.bytes ≡ old.bytes
  pub forward : old.index ≤ new.index

-- What was returned, and the place i where it left the reader, are this step, which only leads on.
abbrev pub LeadsTo : Result (Unit {0}) Fault → ℕ → Span → Type 0
LeadsTo (Ok u) i x = x ≡ taken tt i
LeadsTo (Err f) i x = (x ≡ failed (fault_kind f.kind) f.index) × (i ≡ f.index)

-- What was returned, seen by view, and the place where it left the reader, are this reading.
abbrev pub Reads : {X A : Type 0} → (X → A) → Result X Fault → ℕ → Reading A → Type 0
Reads view (Ok x) i r = r ≡ done (view x) i
Reads view (Err f) i r = r ≡ fault (fault_kind f.kind) f.index i

-- The same, unless an allocation fails.
abbrev pub Returns : {X A : Type 0} → (X → A) → Result X ReadError → ℕ → Reading A → Type 0
Returns view result i r = UnlessRefused result (λ x. Reads view x i r)
