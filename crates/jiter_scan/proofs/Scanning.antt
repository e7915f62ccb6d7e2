-- How far the reading of a scalar gets, and where its errors are.
use Rattle.jiter_scan.proofs.Words.{◌≡◌, ℕ, ◌<◌, ◌≤◌, ◌∙◌, List, length, sym, ap, subst, Scanned, taken, failed, Err}
use Rattle.jiter_scan.proofs.Words.{kind_of, fault_kind, AnswersAlone, Fault, JsonError}
pub use Rattle.jiter_scan.specs.Scanned.{FaultAt}

-- after i and within the text; an error at or after i
abbrev pub ScalarWithin : {A : Type 0} → List ℕ → ℕ → Scanned A → Type 0
ScalarWithin t i (taken a e) = (i < e) × (e ≤ length t)
ScalarWithin t i (failed k j) = (i ≤ j) × FaultAt t k j

-- within the text, or an error of its bytes
abbrev pub Within : {A : Type 0} → List ℕ → Scanned A → Type 0
Within t (taken a e) = e ≤ length t
Within t (failed k j) = FaultAt t k j

-- a public call that hands on an error of a reading within the text
pub AnswersAlone-fault : {X A : Type 0} (view : X → A) (t : List ℕ) (s : Scanned A) (f : Fault) (e : JsonError)
    → Within t s → s ≡ failed (fault_kind f.kind) f.index
    → (kind_of e.error_type ≡ fault_kind f.kind) × (e.index ≡ f.index) → AnswersAlone view t (Err e) s
AnswersAlone-fault view t s f e law is same =
    let found : s ≡ failed (kind_of e.error_type) e.index =
    is ∙ sym (ap (λ k. failed k e.index) same.0 ∙ ap (λ j. failed (fault_kind f.kind) j) same.1) in
    (found, subst (Within t) found law)
