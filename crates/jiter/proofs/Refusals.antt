-- A refused scalar is an error of the bytes, whose index lies within the text.
use Rattle.jiter.proofs.Words.{◌≡◌, ap, subst, ℕ, ◌<◌, ◌≤◌, List, length, Ok, Err, Result, arith, IsErrAnd, Scanned}
use Rattle.jiter.proofs.Words.{taken, failed, Kind, fault_kind, ScalarWithin, Reading, done, fault, scalar_at}
use Rattle.jiter.proofs.Words.{json_error, ReaderState, Refusal, IsRefusalOf, IsErrorAt, RefusesBytes, IndexWithin}
use Rattle.jiter.proofs.Words.{refusal_view, Tree, owned_tree, reading_as, ReadError, JiterError}
use Rattle.std.specs.Prelude.{MatchResult, IfErr}
use Rattle.jiter_scan.specs.declared.errors.Fault.{Fault}
use Rattle.jiter_scan.specs.Scanned.{FaultAt}
use Rattle.jiter_scan.proofs.Scanning.{Within}
use Rattle.jiter_steps.proofs.Reading.Bounds as reading
use Rattle.jiter_steps.specs.Parse.{NeverMovesBack, Returns, Reads}
use Rattle.jiter_steps.specs.declared.parse.Parser.{Parser}
use Rattle.jiter_steps.specs.declared.read_error.ReadError.TheVariants as error

-- where the reader is there is a byte
abbrev pub IsInside : ReaderState → Type 0
IsInside s = s.position < length s.text

-- ends within the text and not after a place
pub scalar-within : {A : Type 0} (t : List ℕ) (i : ℕ) (x : Scanned A) → ScalarWithin t i x → Within t x
scalar-within t i (taken a e) w = w.1
scalar-within t i (failed k j) w = w.1

-- the same of the reading
pub reading-within : {A : Type 0} (t : List ℕ) (i : ℕ) (x : Scanned A) → i ≤ length t → ScalarWithin t i x
    → reading.Within t i (scalar_at i x)
reading-within t i (taken a e) le w = w
reading-within t i (failed k j) le w = (omega arith, le, w.1)

module _ (t : List ℕ) (k : Kind) (j : ℕ) (e : JiterError)
    (is : refusal_view e ≡ record { cause = json_error k; index = j }) where
  -- an error of the bytes
  refusal-fault : FaultAt t k j → IsRefusalOf t e
  refusal-fault at =
      let cause = ap (λ (r : Refusal). r.cause) is in
      let index = ap (λ (r : Refusal). r.index) is in
      record { bytes = λ m. at.bytes (let same : k ≡ _ = cc in same); within = omega (arith, at.within, index) }

  -- of what a function of the bytes reads
  pub refusal-failed : {A : Type 0} (x : Scanned A) → Within t x → x ≡ failed k j → IsRefusalOf t e
  refusal-failed x w h = refusal-fault (subst (Within t) h w)

-- a reader's error is one of the bytes
pub reads-fault : {X A : Type 0} (view : X → A) (t : List ℕ) (i : ℕ) (x : Result X Fault) (stop : ℕ) (r : Reading A)
    → reading.Within t i r → Reads view x stop r → IfErr x (λ f. FaultAt t (fault_kind f.kind) f.index)
reads-fault view t i (Ok a) stop r w h = tt
reads-fault view t i (Err f) stop r w h = let at = subst (reading.Within t i) h w in at.2

-- what an error of the bytes becomes
pub refuses : {X : Type 0} {Q : Fault → JiterError → Type 0} (t : List ℕ) (x : Result X Fault) (y : Result X JiterError)
    → MatchResult x (λ a. y ≡ Ok a) (λ f. IsErrAnd y (Q f))
    → ((f : Fault) (e : JiterError) → Q f e
    → refusal_view e ≡ record { cause = json_error (fault_kind f.kind); index = f.index })
    → IfErr x (λ f. FaultAt t (fault_kind f.kind) f.index) → RefusesBytes t y
refuses t x (Ok b) m is at = tt
refuses t (Ok a) (Err e) m is at = absurd (cc)
refuses t (Err f) (Err e) m is at = refusal-fault t (fault_kind f.kind) f.index e (is f e m) at

-- the bounds of a reading whose value is owned then
pub owned-within : (t : List ℕ) (i : ℕ) (r : Reading Tree) → reading.Within t i r
    → reading.Within t i (reading_as owned_tree r)
owned-within t i (done v e) w = w
owned-within t i (fault k j stop) w = w

-- the place where a reader of the same bytes is
pub index-parser : (old new : Parser) → NeverMovesBack old new → new.index ≤ length old.bytes.now
index-parser old new m = let at = new.within in rw (← m.same) at

-- of what a reader of the bytes reads that may want memory
pub index-error : {X A : Type 0} (t : List ℕ) (i : ℕ) (view : X → A) (x : ReadError) (stop : ℕ) (e : JiterError)
    → IsErrorAt x stop e → (r : Reading A) → reading.Within t i r → stop ≤ length t → Returns view (Err x) stop r
    → e.index ≤ length t
index-error t i view (error.Fault f) stop e is r w le h =
    let at = subst (reading.Within t i) h w in
    let index = ap (λ (r : Refusal). r.index) is in
    omega (arith, at.2.within, index)
index-error t i view (error.Memory m) stop e is r w le h =
    let index = ap (λ (r : Refusal). r.index) is in omega (arith, le, index)

-- what the error of a reading becomes
pub index-refused : {X A : Type 0} {Q : ReadError → JiterError → Type 0} (t : List ℕ) (i : ℕ) (view : X → A)
    (x : Result X ReadError) (y : Result X JiterError) (stop : ℕ) (r : Reading A)
    → MatchResult x (λ a. y ≡ Ok a) (λ f. IsErrAnd y (Q f))
    → ((f : ReadError) (e : JiterError) → Q f e → IsErrorAt f stop e)
    → reading.Within t i r → stop ≤ length t → Returns view x stop r → IndexWithin t y
index-refused t i view x (Ok b) stop r m is w le h = tt
index-refused t i view (Ok a) (Err e) stop r m is w le h = absurd (cc)
index-refused t i view (Err f) (Err e) stop r m is w le h = index-error t i view f stop e (is f e m) r w le h
