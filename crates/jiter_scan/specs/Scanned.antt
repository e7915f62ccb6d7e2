-- What reading a scalar or a key from the left gives, and what a function of the code says of it.
use Rattle.std.specs.Prelude.{◌≡◌, ◌≢◌, ◌≤◌, ℕ, List, length, Result, Ok, Err, true}
use Rattle.jiter_scan.specs.Kind.{Kind, kind_of, fault_kind, is_end_kind, out_of_memory}
use Rattle.jiter_scan.specs.declared.errors.Fault.{Fault}
use Rattle.jiter_scan.specs.declared.errors.JsonError.{JsonError}

-- what was read and the place after it, or an error's kind and index
pub data Scanned (A : Type 0) : Type 0 where
  taken : A → ℕ → Scanned A
  failed : Kind → ℕ → Scanned A

-- what a pair of a value and the place after it says was read
abbrev pub with_end : {X A : Type 0} → (X → A) → X × ℕ → Scanned A
with_end view p = taken (view p.0) p.1

-- what the value of a whole text says was read
abbrev pub whole_text : {X A : Type 0} → (X → A) → List ℕ → X → Scanned A
whole_text view t x = taken (view x) (length t)

-- What a function returned, seen so, is this reading.
abbrev pub Scans : {X A : Type 0} → (X → Scanned A) → Result X Fault → Scanned A → Type 0
Scans seen (Ok x) s = s ≡ seen x
Scans seen (Err f) s = s ≡ failed (fault_kind f.kind) f.index

-- An error of the bytes at j: within the text, at its length where the input ended, and not a failed allocation.
pub record FaultAt (t : List ℕ) (k : Kind) (j : ℕ) : Type 0 where
  pub within : j ≤ length t
  pub ends : is_end_kind k ≡ true → j ≡ length t
  pub bytes : k ≢ out_of_memory

-- An error of this text's bytes.
abbrev pub IsFaultOf : List ℕ → Fault → Type 0
IsFaultOf t f = FaultAt t (fault_kind f.kind) f.index

-- What a public call answered of a whole text, seen by view, is this reading.
abbrev pub AnswersAlone : {X A : Type 0} → (X → A) → List ℕ → Result X JsonError → Scanned A → Type 0
AnswersAlone view t (Ok x) s = s ≡ taken (view x) (length t)
AnswersAlone view t (Err e) s = (s ≡ failed (kind_of e.error_type) e.index) × FaultAt t (kind_of e.error_type) e.index
