-- Where an error that can go on is answered, the bytes before its index can be completed to a document.
use Rattle.jiter_steps.proofs.Words.{◌≡◌, inl, ℕ, Bool, true, List, [], ◌++◌, length, take, refl, sym, subst, arith}
use Rattle.jiter_steps.proofs.Words.{◌∙◌, slice_get, Option, Some, None, slice_get_within, Kind, answer, past_blanks}
use Rattle.jiter_steps.proofs.Words.{IsBlank, can_go_on, Node, end, nesting_limit, value_of, IsDocument, Reading, done}
use Rattle.jiter_steps.proofs.Words.{fault, value_at, if_last, to_end, if_begun, prefix_answer, whole_answer}
use Rattle.jiter_steps.specs.FirstFault.{CanBeCompleted}
use Rattle.jiter_steps.proofs.Fault.Completions.{CanClose, OpenTo, close-map, no-blanks, taken-length, prefix-kept}
use Rattle.jiter_steps.proofs.Grammar.Documents.{answer-value}
use Rattle.jiter_steps.proofs.Reading.Fused.{mapped}
use Rattle.jiter_steps.proofs.Grammar.NodeRules.{nodes}
use Rattle.jiter_steps.proofs.Grammar.Blanks.{passed-blank}
use Rattle.jiter_steps.proofs.Fault.OpenNumbers.{no_live}
use Rattle.jiter_steps.proofs.Fault.OpenParts.{CanEndHere}
use Rattle.jiter_steps.proofs.Fault.OpenReadings.{OpenAs, IsValue, value_at-open}
use Rattle.jiter_steps.proofs.Fault.SameSpelling.{blanks-too, spells-too}
use Rattle.jiter_steps.proofs.Grammar.Sound.{Sound, value_at-sound}
use Rattle.jiter_steps.proofs.Grammar.SpelledParts.{node-ahead}

module _ (names : Bool) (t : List ℕ) where
  -- some document is the bytes before x, a filler and closers
  abbrev Completed : ℕ → Type 0
  Completed x = CanClose t x (λ u. (n : Node) × IsDocument names u n)

  -- a value that ends where the text ends, after whitespace
  value-document : (i x : ℕ) → IsBlank t 0 i → CanEndHere (IsValue names nesting_limit) t i x → Completed x
  value-document i x before (le, ends) =
      close-map t x _ _
      (λ w within here.
      let u = take x t ++ w in
      let blanks = blanks-too t u x (prefix-kept t x within w) 0 i le before in (
        here.0,
        record {
          before = subst (IsBlank u 0) (sym here.1.0.begins) blanks;
          spelled = here.1.0.spelled;
          after = no-blanks u (end here.0) (length u) here.1.0.ends (omega arith);
          limit = here.1.1;
        },
      ))
      ends

  -- a value with bytes after it: the document ends before these
  trailing-document : (i e : ℕ) (n : Node) → IsBlank t 0 i → Sound names t nesting_limit i (done n e)
      → Completed (past_blanks t e)
  trailing-document i e n before is =
      let x = past_blanks t e in
      let blanks = passed-blank t e is.0.within in
      let within = blanks.within in
      let order = blanks.ordered in
      let ahead = node-ahead names t n is.0.spelled in
      let u = take x t ++ [] in
      let same = prefix-kept t x within [] in
      let long = taken-length t x within [] in
      let after : IsBlank u e (length u) =
      subst (IsBlank u e) (omega arith) (blanks-too t u x same e x (omega arith) blanks) in
      let document : IsDocument names u n = record {
        before = subst (IsBlank u 0) (sym is.0.begins) (blanks-too t u x same 0 i (omega arith) before);
        spelled = spells-too names t u x same n (omega arith) is.0.spelled;
        after = subst (λ k. IsBlank u k (length u)) (sym is.0.ends) after;
        limit = is.1;
      } in
      record { filler = []; closers = []; is_filler = inl refl; are_closers = tt; within = within; is = (n, document) }

  -- so the answer of a text that ends early
  abbrev Opens : Reading Node → Type 0
  Opens y = OpenTo Completed (mapped (value_of t) y)

  if_last-open : (i e : ℕ) (n : Node) (o : Option ℕ) → IsBlank t 0 i → Sound names t nesting_limit i (done n e)
      → Opens (if_last n e (past_blanks t e) o)
  if_last-open i e n None before is = tt
  if_last-open i e n (Some c) before is = λ live. trailing-document i e n before is

  to_end-open : (i : ℕ) (y : Reading Node) → IsBlank t 0 i → Sound names t nesting_limit i y
      → OpenAs (IsValue names nesting_limit) t i y → Opens (to_end t y)
  to_end-open i (done n e) before is h = if_last-open i e n (slice_get t (past_blanks t e)) before is
  to_end-open i (fault k x stop) before is h = λ live. value-document i x before (h live)

  if_begun-open : (i : ℕ) → IsBlank t 0 i → (o : Option ℕ) → slice_get t i ≡ o
      → Opens (to_end t (if_begun (nodes names) t i o))
  if_begun-open i before None e = no_live
  if_begun-open i before (Some c) e =
      let inside = slice_get_within t i c e in
      to_end-open i (value_at (nodes names) t nesting_limit i) before
      (value_at-sound names t nesting_limit i inside) (value_at-open names t nesting_limit i inside)

  whole-open : Opens (whole_answer (nodes names) t)
  unfolding whole_answer prefix_answer
  whole-open =
      if_begun-open (past_blanks t 0) (passed-blank t 0 (omega arith)) (slice_get t (past_blanks t 0)) refl

-- Where an error that can go on is answered, some document is the bytes before its index, then nothing, `0` or `"":0`,
-- then closers.
pub alive : (names : Bool) (t : List ℕ) (k : Kind) (i stop : ℕ) → answer names t ≡ fault k i stop → can_go_on k ≡ true
    → CanBeCompleted names (take i t)
alive names t k i stop is live =
    let h = subst (OpenTo (Completed names t)) (answer-value names t ∙ is) (whole-open names t) live in
    record {
      filler = h.filler;
      closers = h.closers;
      node = h.is.0;
      is_filler = h.is_filler;
      are_closers = h.are_closers;
      document = h.is.1;
    }
