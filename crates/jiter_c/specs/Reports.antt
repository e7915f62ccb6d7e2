-- What a call of the reader reports: whether a value was given, the reader's position, and why the call failed.
use Rattle.std.specs.Prelude.{◌≡◌, ◌≢◌, ◌≤◌, ◌++◌, ℕ, Bool, true, false, List, length, take, drop}
use Rattle.std.specs.Prelude.{Result, Ok, Err}
use Rattle.jiter.specs.Cause.{json_error}
use Rattle.jiter.specs.Errors.{cause_of}
use Rattle.jiter.specs.Reader.{Reply, gave, position_after, refused}
use Rattle.jiter.specs.Reads.{Memory, never, only_at}
use Rattle.jiter.specs.declared.errors.JiterError.{JiterError}
use Rattle.jiter_scan.specs.Kind.{out_of_memory}
use Rattle.jiter_c.specs.Faults.{fault_of, memory_number}
use Rattle.jiter_c.specs.declared.faults.JiterFault.{JiterFault}
use Rattle.jiter_c.specs.declared.reader.JiterReader.{JiterReader}

-- a value was given
abbrev pub is_given : {A : Type 0} → Reply A → Bool
is_given (gave a e) = true
is_given (refused c i stop) = false

-- the value that was given, or what the caller had there before
abbrev pub given_or : {A : Type 0} → A → Reply A → A
given_or before (gave a e) = a
given_or before (refused c i stop) = before

-- the error of an error, or what the caller had there before
abbrev pub fault_or : {A : Type 0} → JiterFault → Reply A → JiterFault
fault_or before (gave a e) = before
fault_or before (refused c i stop) = fault_of c i

-- the error of a result, or what the caller had there before
abbrev pub error_or : {A : Type 0} → JiterFault → Result A JiterError → JiterFault
error_or before (Ok a) = before
error_or before (Err e) = fault_of (cause_of e.error_type) e.index

-- the same reader where a reply leaves it
abbrev pub left_by : {A : Type 0} → JiterReader → Reply A → JiterReader
left_by r reply = record r { index = position_after reply }

-- A call reported this reply.
pub record Reports {A : Type 0} (reply : Reply A) (given : Bool) (old new : JiterReader) (before later : JiterFault)
    : Type 0 where
  pub outcome : given ≡ is_given reply
  pub position : new ≡ left_by old reply
  pub fault : later ≡ fault_or before reply

-- unless memory ran out, P
abbrev pub UnlessMemory : Bool → JiterFault → Type 0 → Type 0
UnlessMemory true f P = P
UnlessMemory false f P = f.kind ≢ memory_number → P

-- if memory ran out, P
abbrev pub WhereMemory : Bool → JiterFault → Type 0 → Type 0
WhereMemory true f P = Unit {0}
WhereMemory false f P = f.kind ≡ memory_number → P

-- memory may run out at i
abbrev pub MayRunOut : Memory → ℕ → Type 0
MayRunOut never i = ⊥
MayRunOut (only_at At) i = At i

-- A call of the reader ran out of memory: where that may be, within the bytes, and the reader is left there.
pub record RunsOutAt (when : Memory) (old new : JiterReader) (f : JiterFault) : Type 0 where
  pub fault : f ≡ fault_of (json_error out_of_memory) f.index
  pub within : f.index ≤ length old.bytes.now
  pub wanted : MayRunOut when f.index
  pub position : new ≡ record old { index = f.index }

-- A text in the caller's memory: as much as fits, and after it what was there before.
abbrev pub written : List ℕ → List ℕ → List ℕ
written text out = take (length out) text ++ drop (length text) out

-- Memory that held a text of so many bytes then holds this one after it.
abbrev pub Appends : ℕ → List ℕ → List ℕ → List ℕ → Type 0
Appends count text old new =
    (begun out : List ℕ) → length begun ≡ count → old ≡ written begun out → new ≡ written (begun ++ text) out
