-- What a whole text answers, by how its reading goes.
use Rattle.jiter_value.proofs.Words.{◌≡◌, inl, inr, ℕ, ◌<◌, Bool, true, false, List, length, refl, sym, ap, ap₂, ◌∙◌}
use Rattle.jiter_value.proofs.Words.{arith, length-reverse, reverse, slice_get, Option, Some, None, Err, if◌then◌else◌}
use Rattle.jiter_value.proofs.Words.{Kind, fault_kind, if_case, if_both, is_active, taken, failed, JsonError}
use Rattle.jiter_value.proofs.Words.{PartialMode, Off, On, TrailingStrings, answer_in, past_blanks, Returns, Reading}
use Rattle.jiter_value.proofs.Words.{done, fault, Rules, value_at, if_begun, if_last, to_end, prefix_answer}
use Rattle.jiter_value.proofs.Words.{whole_answer, step, value_first, Text, Tree, ReadError, whole-is, Within}
use Rattle.jiter_value.proofs.Words.{GivesWhole, IsErrorOf, TextPolicy, answer_with, view, Answers, Stands}
use Rattle.jiter_value.proofs.Words.{Fails, HasReached, Settings, Stacks}
use Rattle.jiter_scan.proofs.Choices.{if-true, if-false}
use Rattle.jiter_steps.specs.Step.{document_end}
use Rattle.jiter_steps.specs.declared.read_error.ReadError.TheVariants as error
use Rattle.jiter_steps.proofs.Reading.WholeTexts.{prefix-begins}
use Rattle.jiter_steps.proofs.Reading.Instances.{answer-within, partial_answer-within}
use Rattle.jiter_value.specs.declared.parse.stacks.Slot.TheVariants as slot
use Rattle.jiter_value.specs.declared.parse.stacks.State.TheVariants as state
use Rattle.jiter_value.proofs.StackTurns.{root-from, root-alone}

-- where a value begins, a byte is after whitespace
begins-at : (i j : ℕ) (o : Option ℕ) → value_first j o ≡ taken tt i → j ≡ i
begins-at i j None h = absurd (cc)
begins-at i j (Some c) h = cc

pub value-begins-at : (t : List ℕ) (i : ℕ) → step t value_first 0 ≡ taken tt i → past_blanks t 0 ≡ i
value-begins-at t i h = begins-at i (past_blanks t 0) (slice_get t (past_blanks t 0)) h

no-value : (r : Rules Text Tree) (t : List ℕ) (i : ℕ) (o : Option ℕ) (k : Kind) (j : ℕ) → value_first i o ≡ failed k j
    → if_begun r t i o ≡ fault k j j
no-value r t i None k j h = cc
no-value r t i (Some c) k j h = absurd (cc)

prefix-none : (r : Rules Text Tree) (t : List ℕ) (k : Kind) (j : ℕ) → step t value_first 0 ≡ failed k j
    → prefix_answer r t ≡ fault k j j
unfolding prefix_answer
prefix-none r t k j h = no-value r t (past_blanks t 0) (slice_get t (past_blanks t 0)) k j h

-- after a value, nothing or an error
nothing-left : (a : Tree) (e i j : ℕ) (o : Option ℕ) → document_end j o ≡ taken tt i → if_last a e j o ≡ done a e
nothing-left a e i j None h = refl
nothing-left a e i j (Some c) h = absurd (cc)

something-left : (a : Tree) (e i j : ℕ) (k : Kind) (o : Option ℕ) → document_end j o ≡ failed k i
    → if_last a e j o ≡ fault k i i
something-left a e i j k None h = absurd (cc)
something-left a e i j k (Some c) h = cc

-- an answer stays within the text, in every mode
pub answer_in-within : (names : Bool) (t : List ℕ) (mode : PartialMode) → Within t 0 (answer_in names mode t)
answer_in-within names t Off = answer-within t names
answer_in-within names t On = partial_answer-within t names On
answer_in-within names t TrailingStrings = partial_answer-within t names TrailingStrings

-- by any rules
module _ (r : Rules Text Tree) (mode : PartialMode) (t : List ℕ) where
  answer-is : (x : Reading Tree) → prefix_answer r t ≡ x
      → answer_with mode r t ≡ (if is_active mode then x else to_end t x)
  answer-is x is =
      if_both (λ x y. x ≡ y) (is_active mode) (prefix_answer r t) (whole_answer r t) x (to_end t x) (λ on. is)
      (λ off. whole-is r t ∙ ap (to_end t) is)

  fault-is : (k : Kind) (x i : ℕ) → prefix_answer r t ≡ fault k x i → answer_with mode r t ≡ fault k x i
  fault-is k x i is =
      answer-is (fault k x i) is ∙ if_case (λ y. y ≡ fault k x i) (is_active mode) _ _ (λ on. refl) (λ off. refl)

  -- where no value begins
  pub answer-none : (k : Kind) (x i : ℕ) → (step t value_first 0 ≡ failed k x) × (i ≡ x)
      → answer_with mode r t ≡ fault k x i
  answer-none k x i h = fault-is k x i (prefix-none r t k x h.0 ∙ ap (fault k x) (sym h.1))

  module _ (begun : past_blanks t 0 < length t) where
    abbrev pub value_here : Reading Tree
    value_here = value_at r t 200 (past_blanks t 0)

    begins : prefix_answer r t ≡ value_here
    begins = prefix-begins r t (past_blanks t 0) refl begun

    -- where the value is refused
    pub answer-fault : (k : Kind) (x i : ℕ) → value_here ≡ fault k x i → answer_with mode r t ≡ fault k x i
    answer-fault k x i h = fault-is k x i (begins ∙ h)

    pub answer-refused : (e : ReadError) (j : ℕ) → Returns view (Err e) j value_here
        → GivesWhole (Err e) j (answer_with mode r t)
    answer-refused (error.Memory m) j h = tt
    answer-refused (error.Fault f) j h = answer-fault (fault_kind f.kind) f.index j h

    module _ (v : Tree) (e : ℕ) (is : value_here ≡ done v e) where
      value-is : answer_with mode r t ≡ (if is_active mode then done v e else to_end t (done v e))
      value-is = answer-is (done v e) (begins ∙ is)

      pub answer-prefix : is_active mode ≡ true → answer_with mode r t ≡ done v e
      answer-prefix on = value-is ∙ if-true (is_active mode) (done v e) (to_end t (done v e)) on

      whole-value : is_active mode ≡ false → answer_with mode r t ≡ to_end t (done v e)
      whole-value off = value-is ∙ if-false (is_active mode) (done v e) (to_end t (done v e)) off

      pub answer-end : (j : ℕ) → is_active mode ≡ false → step t document_end e ≡ taken tt j
          → answer_with mode r t ≡ done v e
      answer-end j off h = whole-value off ∙ nothing-left v e j (past_blanks t e) (slice_get t (past_blanks t e)) h

      pub answer-trailing : (k : Kind) (x j : ℕ) → is_active mode ≡ false
          → (step t document_end e ≡ failed k x) × (j ≡ x) → answer_with mode r t ≡ fault k x j
      answer-trailing k x j off h =
          whole-value off ∙ something-left v e x (past_blanks t e) k (slice_get t (past_blanks t e)) h.0
          ∙ ap (fault k x) (sym h.1)

-- what a public call answers of it
pub error-answers : (e : ReadError) (i : ℕ) (err : JsonError) (r : Reading Tree) → IsErrorOf e i err
    → GivesWhole (Err e) i r → Answers (Err err) r
error-answers (error.Memory m) i err r is h = inl (ap (λ e. e.error_type) is)
error-answers (error.Fault f) i err r is h = inr (i, h ∙ ap₂ (λ k x. fault k x i) (sym is.0) (sym is.1))

-- ---- the machine
pub fails-gives : (e : ReadError) (j : ℕ) (x y : Reading Tree) → x ≡ y → Fails e j y → Returns view (Err e) j x
fails-gives (error.Fault f) j x y q h = q ∙ h
fails-gives (error.Memory m) j x y q h = tt

-- a reading begins where the text's value does
pub begins-at-value : (policy : TextPolicy) (W : Type 0) (p : Settings) (t : List ℕ) (s : Stacks) (i : ℕ) → Stands s slot.Root
    → i < length t → HasReached policy W t i p s i state.Root
begins-at-value policy W p t s i b lt =
    let os = reverse s.nest.items in
    let none : length s.nest.items ≡ 0 = sym (length-reverse s.nest.items)
    ∙ root-alone os (length s.items.items) (length s.members.items) b in
    record {
      reaches = (
        root-from policy p t os s.items.items s.members.items (length s.items.items)
            (length s.members.items) i b,
        (b, omega (arith, none), lt, λ item. absurd (cc)),
      );
      begins = lt;
      within = (omega arith, omega (arith, lt));
      grows = inl (refl, refl);
    }
