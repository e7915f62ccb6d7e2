-- What a run of the program ends with.
use Rattle.std.specs.Prelude.{ℕ}
use Rattle.test_failures.specs.declared.outcome.Outcome.{Outcome}
use Rattle.test_failures.specs.declared.outcome.Outcome.TheVariants.{Answered, AllocFailed, Broken}

-- the program's exit status
abbrev pub status_of : Outcome → ℕ
status_of (Answered line) = 0
status_of (AllocFailed line) = 3
status_of (Broken line) = 1
