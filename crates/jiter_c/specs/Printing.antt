-- A text that is made and then written to C's memory.
use Rattle.std.specs.Prelude.{◌≡◌, ℕ, Bool, true, false, List, length, Option, Some, None, Result, Ok, Err, Vec}
use Rattle.std.specs.declared.alloc.Global.{Global}
use Rattle.jiter_c.specs.Reports.{written}
use Rattle.jiter_c.specs.declared.faults.JiterFault.{JiterFault}

-- The text as far as it fits and its length, or the error.
abbrev pub WritesText : Result (Vec ℕ Global) JiterFault → Bool → List ℕ → List ℕ → ℕ → ℕ → JiterFault → JiterFault
    → Type 0
WritesText (Ok text) given out later whole count before fault =
    (given ≡ true) × (later ≡ written text.items out) × (count ≡ length text.items) × (fault ≡ before)
WritesText (Err f) given out later whole count before fault =
    (given ≡ false) × (later ≡ out) × (count ≡ whole) × (fault ≡ f)

-- the error that is reported, if one is
abbrev pub error_if : Bool → JiterFault → Option JiterFault
error_if true f = Some f
error_if false f = None
