-- The text of an error's cause in the caller's memory.
use Rattle.std.specs.Prelude.{◌≡◌, ◌≤◌, ℕ, List, length}
use Rattle.jiter.specs.Cause.{Cause, ValueType, cause_text, type_text}
use Rattle.jiter_c.specs.Faults.{HasCause, type_number}
use Rattle.jiter_c.specs.Reports.{written}
use Rattle.jiter_c.specs.declared.faults.JiterFault.{JiterFault}

-- the text of the type with this number
pub record IsTypeText (number : ℕ) (text : List ℕ) : Type 0 where
  pub named : ValueType
  pub numbered : number ≡ type_number named
  pub spelled : text ≡ type_text named
  pub short : length text ≤ 6

-- the memory holds the text of this error's cause, of so many bytes
pub record WritesCause (f : JiterFault) (out later : List ℕ) (count : ℕ) : Type 0 where
  pub cause : Cause
  pub has : HasCause f cause
  pub written : later ≡ written (cause_text cause) out
  pub counted : count ≡ length (cause_text cause)
  pub short : count ≤ 100
