-- What C is told of a reading of a complete document.
use Rattle.std.specs.Prelude.{◌≡◌, ◌≤◌, ◌⊎◌, ℕ, Bool, true, false, ◌==◌, if◌then◌else◌, List, length, Option, Some, None}
use Rattle.std.specs.Prelude.{Result, Ok, Err, Vec}
use Rattle.std.specs.declared.alloc.Global.{Global}
use Rattle.jiter.specs.Cause.{json_error}
use Rattle.jiter_print.specs.Print.{print_of}
use Rattle.jiter_scan.specs.Kind.{out_of_memory}
use Rattle.jiter_scan.specs.declared.partial_mode.PartialMode.{PartialMode}
use Rattle.jiter_steps.specs.Blank.{past_blanks}
use Rattle.jiter_steps.specs.Read.{Reading, done, fault}
use Rattle.jiter_steps.specs.Tree.{Tree}
use Rattle.jiter_value.specs.Value.{MayGrow}
use Rattle.jiter_c.specs.Faults.{fault_of}
use Rattle.jiter_c.specs.Printing.{WritesText}
use Rattle.jiter_c.specs.declared.faults.JiterFault.{JiterFault}

-- the mode with a number, if there is one
abbrev pub mode_numbered : ℕ → Option PartialMode
mode_numbered n =
    if n == 0 then Some PartialMode.Off
    else (if n == 1 then Some PartialMode.On else (if n == 2 then Some PartialMode.TrailingStrings else None))

-- a value was read
abbrev pub is_read : {A : Type 0} → Reading A → Bool
is_read (done v e) = true
is_read (fault k i stop) = false

-- the error that was met, or what the caller had there before
abbrev pub read_fault : {A : Type 0} → JiterFault → Reading A → JiterFault
read_fault before (done v e) = before
read_fault before (fault k i stop) = fault_of (json_error k) i

-- Memory ran out, from the value's first byte on and within the bytes; only if Grows.
pub record RunsOut (Grows : Type 0) (t : List ℕ) (f : JiterFault) : Type 0 where
  pub grows : Grows
  pub fault : f ≡ fault_of (json_error out_of_memory) f.index
  pub begun : past_blanks t 0 ≤ f.index
  pub within : f.index ≤ length t

-- The text of the value of the bytes t, or the error. Memory runs out in the parse, or for the text at their end.
abbrev pub PrintsBytes : List ℕ → Reading Tree → Result (Vec ℕ Global) JiterFault → Type 0
PrintsBytes t (done v e) (Ok text) = text.items ≡ print_of v
PrintsBytes t (done v e) (Err f) = RunsOut (MayGrow t ⊎ (f.index ≡ length t)) t f
PrintsBytes t (fault k i stop) (Ok text) = ⊥
PrintsBytes t (fault k i stop) (Err f) = (f ≡ fault_of (json_error k) i) ⊎ RunsOut (MayGrow t) t f

-- The same, as a call writes it.
abbrev pub ReportsBytes : List ℕ → Reading Tree → Bool → List ℕ → List ℕ → ℕ → ℕ → JiterFault → JiterFault → Type 0
ReportsBytes t reading given out after whole count before later =
    (text : Result (Vec ℕ Global) JiterFault) × PrintsBytes t reading text
    × WritesText text given out after whole count before later
