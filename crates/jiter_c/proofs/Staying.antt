-- Where a reader of C's is after a refused scalar, and after a peek.
use Rattle.std.proofs.Common.{◌≡◌, ◌≢◌, ◌∙◌, ◌≤◌, ℕ, Bool, true, false, length, min, refl, sym, ap, subst, arith}
use Rattle.std.specs.Prelude.{Option, Some, None, Result, Ok, Err, is_some}
use Rattle.std.specs.Result.{result_ok}
use Rattle.std.proofs.lemmas.Bool.{false≢true}
use Rattle.std.proofs.lemmas.Option.{none-some}
use Rattle.jiter_steps.specs.Literal.{start_of}
use Rattle.jiter.specs.Cause.{Cause}
use Rattle.jiter.specs.Jiter.{MovesOn, Replies, reply_seen}
use Rattle.jiter.specs.Reader.{ReaderState, Reply, StaysAt, gave, peek, position_after, refused, value_place}
use Rattle.jiter.specs.Reader.{with_position}
use Rattle.jiter.specs.declared.errors.JiterError.{JiterError}
use Rattle.jiter.proofs.Peeking.{peek-again}
use Rattle.jiter_c.specs.Faults.{fault_of, memory_number}
use Rattle.jiter_c.specs.Replies.{peek_reply, start_number, state_of}
use Rattle.jiter_c.specs.Reports.{Reports, UnlessMemory, fault_or, is_given, left_by}
use Rattle.jiter_c.specs.declared.faults.JiterFault.{JiterFault}
use Rattle.jiter_c.specs.declared.reader.JiterReader.{JiterReader}

-- a scalar that is refused leaves the reader at the value
pub stays-at : {A : Type 0} (s : ReaderState) (r : Reply A) (c : Cause) (x stop i : ℕ) → StaysAt (value_place s) r
    → r ≡ refused c x stop → i ≡ stop → i ≡ value_place s
stays-at s r c x stop i h is at = at ∙ subst (StaysAt (value_place s)) is h

-- the same by what was returned of a call
pub answer-stays : {X A : Type 0} (view : X → A) (read : Result X JiterError) (s s1 : ReaderState) (r : Reply A)
    (o : Option X) (old new : JiterReader) → Replies view read s1 r → StaysAt (value_place s) r → o ≡ result_ok read
    → o ≡ None → new ≡ record old { index = s1.position } → new.index ≡ value_place s
answer-stays view (Ok a) s s1 r o old new is h given none place = absurd (none-some a (sym none ∙ given))
answer-stays view (Err e) s s1 r o old new is h given none place =
    stays-at s r _ _ _ _ h is (ap (λ (x : JiterReader). x.index) place)

-- nothing was returned
pub no-some : {A : Type 0} (o : Option A) (b : Bool) → b ≡ is_some o → b ≡ false → o ≡ None
no-some None b is h = refl
no-some (Some a) b is h = absurd (false≢true (sym h ∙ is))

-- the position that a reply leaves
pub replies-place : {X A : Type 0} (view : X → A) (read : Result X JiterError) (s : ReaderState) (r : Reply A)
    → Replies view read s r → s.position ≡ position_after r
replies-place view (Ok a) s r is = sym (ap position_after is)
replies-place view (Err e) s r is = sym (ap position_after is)

-- what a reply gave, seen otherwise, leaves the reader at the same place
pub seen-stays : {A B : Type 0} (f : A → B) (i : ℕ) (r : Reply A) → StaysAt i r → StaysAt i (reply_seen f r)
seen-stays f i (gave a e) h = tt
seen-stays f i (refused c x stop) h = h

-- where a text was given nothing is said of an error; where it was not, unless an allocation fails, P
pub text-given : (given : Bool) (f : JiterFault) (P : Type 0) → given ≡ true
    → UnlessMemory given f (given ≡ false → P)
text-given true f P is = λ none_given. absurd (false≢true (sym none_given))
text-given false f P is = absurd (false≢true is)

pub text-refused : (given : Bool) (f : JiterFault) (P : Type 0) → given ≡ false → (f.kind ≢ memory_number → P)
    → UnlessMemory given f (given ≡ false → P)
text-refused true f P is h = absurd (false≢true (sym is))
text-refused false f P is h = λ bytes none_given. h bytes

-- A second peek tells the same.
pub peeks-again : (r new : JiterReader) (s : ReaderState) → MovesOn (state_of r) s
    → s.position ≡ position_after (peek (state_of r)) → new ≡ record r { index = s.position }
    → peek_reply new ≡ peek_reply r
peeks-again r new s m place at =
    ap peek_reply at ∙ ap (λ (v : ReaderState). reply_seen number (peek v)) stands
    ∙ ap (reply_seen number) (peek-again (state_of r)) where
      number : ℕ → ℕ
      number b = start_number (start_of b)

      min-within : (a b : ℕ) → a ≤ b → min a b ≡ a
      min-within a b h = omega (arith, h)

      stands : state_of (record r { index = s.position })
          ≡ with_position (state_of r) (position_after (peek (state_of r)))
      stands = ap (with_position (state_of r)) (min-within s.position (length r.bytes.now) m.within ∙ place)

-- What is told of a call that may run out of memory: what it gave, or why it was refused.
module _ {A : Type 0} (reply : Reply A) (given : Bool) (old new : JiterReader) (before later : JiterFault) where
  pub reports-gave : (a : A) (e : ℕ) → reply ≡ gave a e → given ≡ true → new ≡ record old { index = e }
      → later ≡ before → UnlessMemory given later (Reports reply given old new before later)
  reports-gave a e is told place same =
      subst (λ g. UnlessMemory g later (Reports reply g old new before later)) (sym told)
      (record {
        outcome = ap is_given (sym is);
        position = place ∙ ap (left_by old) (sym is);
        fault = same ∙ ap (fault_or before) (sym is);
      })

  pub reports-refused : (c : Cause) (x stop : ℕ) → (later.kind ≢ memory_number → reply ≡ refused c x stop)
      → given ≡ false → new ≡ record old { index = stop } → later ≡ fault_of c x
      → UnlessMemory given later (Reports reply given old new before later)
  reports-refused c x stop h told place same =
      subst (λ g. UnlessMemory g later (Reports reply g old new before later)) (sym told)
      (λ bytes. let is = h bytes in record {
        outcome = ap is_given (sym is);
        position = place ∙ ap (left_by old) (sym is);
        fault = same ∙ ap (fault_or before) (sym is);
      })
