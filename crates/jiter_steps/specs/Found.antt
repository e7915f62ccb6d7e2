-- What the code reports of a step, with its index.
use Rattle.std.specs.Prelude.{◌≡◌, ◌<◌, ◌≤◌, ℕ, List, length, Option, Some, None}
use Rattle.jiter_scan.specs.Kind.{fault_kind}
use Rattle.jiter_scan.specs.Scanned.{taken, failed}
use Rattle.jiter_scan.specs.Word.{Span}
use Rattle.jiter_scan.specs.declared.errors.FaultKind.{FaultKind}
use Rattle.jiter_steps.specs.Step.{Step, more, closed, stuck}
use Rattle.jiter_steps.specs.declared.step.Step.{Step as Found}
use Rattle.jiter_steps.specs.declared.step.Step.TheVariants as found

-- the step that was found, with its index
abbrev pub step_of : ℕ → Found → Step
step_of j found.Part = more j
step_of j found.End = closed j
step_of j (found.Fault k) = stuck (fault_kind k) j

-- where the reading goes on, or the error that was found
abbrev pub span_of : ℕ → Option FaultKind → Span
span_of j None = taken tt j
span_of j (Some k) = failed (fault_kind k) j

-- From i on this step was found. Its index isn't before i, and that of a part has a byte.
pub record Finds (t : List ℕ) (i : ℕ) (r : ℕ × Found) (s : Step) : Type 0 where
  pub is : s ≡ step_of r.0 r.1
  pub within : (i ≤ r.0) × (r.0 ≤ length t)
  pub part : r.1 ≡ found.Part → r.0 < length t
