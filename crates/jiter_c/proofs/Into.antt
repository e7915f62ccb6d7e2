-- A go that is refused at its first step, the one into the array or the object that comes next.
use Rattle.std.proofs.Common.{◌≡◌, ◌∙◌, ℕ, Bool, true, false, refl, sym, ap, subst}
use Rattle.std.specs.Prelude.{Option, Some, None, Result, Ok, Err, IsErrAnd, slice_get}
use Rattle.jiter_steps.specs.Literal.{start_of}
use Rattle.jiter_steps.specs.StringReading.{raw}
use Rattle.jiter_steps.specs.declared.parse.Start.{Start}
use Rattle.jiter_steps.proofs.Grammar.Sound.{object-byte}
use Rattle.jiter.specs.Errors.{cause_of}
use Rattle.jiter.specs.Jiter.{MovesOn, reply_seen}
use Rattle.jiter.specs.Reader.{ReaderState, Reply, array_read, gave, if_byte, next, object_read, peek, refused}
use Rattle.jiter.specs.Reader.{value_place, with_position}
use Rattle.jiter.specs.declared.errors.JiterError.{JiterError}
use Rattle.jiter.proofs.Peeking.{next-again}
use Rattle.jiter.proofs.Walking.{gave-is, gave-refused}
use Rattle.jiter_c.specs.Faults.{fault_of}
use Rattle.jiter_c.specs.Parts.{IfRefused, RefusedSo, first_part, into_read}
use Rattle.jiter_c.specs.Replies.{has_part}
use Rattle.jiter_c.specs.Reports.{Reports, error_or, fault_or}
use Rattle.jiter_c.specs.declared.faults.JiterFault.{JiterFault}
use Rattle.jiter_c.specs.declared.reader.JiterReader.{JiterReader}
use Rattle.jiter_c.proofs.Walks.{IsBracket}

-- what was returned where the step gave something, and where it was refused
pub into-gave : {X A : Type 0} (r : Reply A) (a : A) (e : ℕ) (x : Result X JiterError) (i : ℕ) → r ≡ gave a e
    → RefusedSo r x i
into-gave r a e x i is = subst (λ q. RefusedSo q x i) (sym is) tt

pub into-refused : {X A : Type 0} (r : Reply A) (x : Result X JiterError) (e : JiterError) (stop : ℕ)
    → r ≡ refused (cause_of e.error_type) e.index stop → IsErrAnd x (λ d. d ≡ e) → RefusedSo r x stop
into-refused {X = X} {A = A} r x e stop is err = subst (λ q. RefusedSo q x stop) (sym is) (by x err) where
  by : (x : Result X JiterError) → IsErrAnd x (λ d. d ≡ e)
      → RefusedSo {A = A} (refused (cause_of e.error_type) e.index stop) x stop
  by (Ok a) err = absurd err
  by (Err d) err = (ap (λ (y : JiterError). cause_of y.error_type) err, ap (λ (y : JiterError). y.index) err, refl)

-- what is told of such a result
module _ {X A : Type 0} (r : Reply A) (i : ℕ) (read : Result X JiterError) (before after : JiterFault)
    (told : after ≡ error_or before read) where
  pub refusal-told : (old new : JiterReader) → new ≡ record old { index = i } → RefusedSo r read i
      → IfRefused r (Reports r false old new before after)
  refusal-told old new place h = by r read told h where
    by : (r : Reply A) (read : Result X JiterError) → after ≡ error_or before read → RefusedSo r read i
        → IfRefused r (Reports r false old new before after)
    by (gave a j) read told h = tt
    by (refused c x stop) (Ok a) told h = absurd h
    by (refused c x stop) (Err e) told (cause, index, at) = record {
      outcome = refl;
      position = place ∙ ap (λ j. record old { index = j }) at;
      fault = told ∙ ap (λ d. fault_of d e.index) cause ∙ ap (fault_of c) index;
    }

  pub refusal-counted : RefusedSo r read i → IfRefused r ((false ≡ false) × (after ≡ fault_or before r))
  refusal-counted h = by r read told h where
    by : (r : Reply A) (read : Result X JiterError) → after ≡ error_or before read → RefusedSo r read i
        → IfRefused r ((false ≡ false) × (after ≡ fault_or before r))
    by (gave a j) read told h = tt
    by (refused c x stop) (Ok a) told h = absurd h
    by (refused c x stop) (Err e) told (cause, index, at) =
        (refl, told ∙ ap (λ d. fault_of d e.index) cause ∙ ap (fault_of c) index)

-- the byte that a peek gave
pub peeked-byte : (s : ReaderState) (c e : ℕ) → peek s ≡ gave c e → slice_get s.text (value_place s) ≡ Some c
peeked-byte s c e told = by (slice_get s.text (value_place s)) told where
  i : ℕ
  i = value_place s

  by : (o : Option ℕ) → if_byte i o (λ b. gave b i) ≡ gave c e → o ≡ Some c
  by None h = absurd (gave-refused (sym h))
  by (Some b) h = ap Some (gave-is b c i e h).0

-- After a peek the step by its byte is the step into what comes next.
module _ (s : ReaderState) where
  -- what begins so at i, where the reader is at p then
  into-array : (p i : ℕ) (b : Start) → (b ≡ Start.Object → ⊥)
      → reply_seen has_part (array_read (with_position s p) i b) ≡ into_read s i b
  into-array p i Start.Object other = absurd (other refl)
  into-array p i b other = refl

  pub peek-into : (s1 : ReaderState) (c : ℕ) (object : Bool) → peek s ≡ gave c s1.position → MovesOn s s1
      → s1.position ≡ value_place s → IsBracket c object → first_part object s1 ≡ next s (into_read s)
  peek-into s1 c object told m place is =
      let same : with_position s (value_place s) ≡ s1 = ap (with_position s) (sym place) ∙ sym m.same in
      subst (λ (v : ReaderState). first_part object v ≡ next s (into_read s)) same (there object is) where
        i : ℕ
        i = value_place s

        here : slice_get s.text i ≡ Some c
        here = peeked-byte s c s1.position told

        into : next s (into_read s) ≡ into_read s i (start_of c)
        into = ap (λ o. if_byte i o (λ b. into_read s i (start_of b))) here

        there : (object : Bool) → IsBracket c object → first_part object (with_position s i) ≡ next s (into_read s)
        there true is =
            let read = object_read raw (with_position s i) in
            ap (reply_seen has_part)
            (next-again s read ∙ ap (λ o. if_byte i o (λ b. read i (start_of b))) here
            ∙ ap (λ b. read i (start_of b)) is)
            ∙ sym (ap (λ b. into_read s i (start_of b)) is) ∙ sym into
        there false is =
            let read = array_read (with_position s i) in
            ap (reply_seen has_part) (next-again s read ∙ ap (λ o. if_byte i o (λ b. read i (start_of b))) here)
            ∙ into-array i i (start_of c) (λ b. is (object-byte c b)) ∙ sym into

  pub peek-gave : (s1 s2 : ReaderState) (c : ℕ) (object more : Bool) → peek s ≡ gave c s1.position → MovesOn s s1
      → s1.position ≡ value_place s → IsBracket c object → first_part object s1 ≡ gave more s2.position
      → {X : Type 0} (x : Result X JiterError) → (stop : ℕ) × RefusedSo (next s (into_read s)) x stop
  peek-gave s1 s2 c object more told m place is given x =
      (0, into-gave (next s (into_read s)) more s2.position x 0 (sym (peek-into s1 c object told m place is) ∙ given))
