-- Rules that refuse repeated keys: a repeated key's error is after the key and within the text, so that readings
-- do.
use Rattle.jiter_steps.proofs.Words.{◌≡◌, ℕ, ◌+◌, ◌<◌, ◌≤◌, Bool, List, map, arith, refl, subst, ◌==◌, Option, Some}
use Rattle.jiter_steps.proofs.Words.{None, slice_get, slice_get_within, Kind, duplicate_key, Scanned, taken, failed}
use Rattle.jiter_steps.proofs.Words.{PartialMode, ScalarWithin, FaultAt, whole_trees, partial_trees, value_form}
use Rattle.jiter_steps.proofs.Words.{nothing_forgiven, past_blanks, Rules, prefix_answer, colon, whole, is_among}
use Rattle.jiter_steps.proofs.Words.{after_its_colon, repeated_key, without_repeats, own_bytes, unique_answer}
use Rattle.jiter_steps.proofs.Grammar.Blanks.{past_blanks-after}
use Rattle.jiter_steps.proofs.Reading.Bounds.{Within, either, fault-byte}
use Rattle.jiter_steps.proofs.Reading.Instances.{trees-advances}
use Rattle.jiter_steps.proofs.Reading.Values.{Advances}
use Rattle.jiter_steps.proofs.Reading.WholeTexts.{prefix_answer-within, whole_answer-within}

module _ (t : List ℕ) where
  -- an error at j, after i
  abbrev After : ℕ → Option (Kind × ℕ) → Type 0
  After i None = Unit {0}
  After i (Some f) = (i < f.1) × FaultAt t f.0 f.1

  colon-here : (key : List ℕ) (e j : ℕ) (o : Option ℕ) → e ≤ j → slice_get t j ≡ o
      → After e (after_its_colon key (colon j o))
  colon-here key e j None le at = tt
  colon-here key e j (Some c) le at =
      either (λ x. After e (after_its_colon key x)) (c == 58) (taken tt (j + 1)) _
      (omega arith, fault-byte t (duplicate_key key) (j + 1) (λ m. cc) refl (omega (arith, slice_get_within t j c at)))
      tt

  after-later : (i e : ℕ) (o : Option (Kind × ℕ)) → i ≤ e → After e o → After i o
  after-later i e None le h = tt
  after-later i e (Some f) le h = (omega (arith, h.0), h.1)

  repeated_key-after : {K : Type 0} (characters : K → List ℕ) (keys : List (List ℕ)) (i : ℕ) (x : Scanned K)
      → ScalarWithin t i x → After i (repeated_key characters keys t x)
  repeated_key-after characters keys i (failed k j) h = tt
  repeated_key-after characters keys i (taken k e) h =
      let p = past_blanks t e in
      after-later i e _ (omega (arith, h.0))
      (either (After e) (is_among (characters k) keys) _ _
      (colon-here (characters k) e p (slice_get t p) (past_blanks-after t e) refl) tt)

  pub repeats-advance : {K A : Type 0} (characters : K → List ℕ) (r : Rules K A) → Advances r t
      → Advances (without_repeats characters r) t
  repeats-advance characters r good = record {
    literal = good.literal;
    number = good.number;
    text = good.text;
    key = good.key;
    refuses = λ members i j k lt h.
        subst (After i) h
        (repeated_key-after characters (map (λ m. characters m.0) members) i (r.key t i) (good.key i lt));
  }

  -- what a parse that refuses repeated keys answers
  pub unique_answer-within : (names : Bool) → Within t 0 (unique_answer names t)
  unique_answer-within names =
      whole_answer-within (without_repeats own_bytes (whole_trees names)) t
      (repeats-advance own_bytes (whole_trees names) (trees-advances t nothing_forgiven whole names))

  pub unique_partial-within : (names : Bool) (mode : PartialMode)
      → Within t 0 (prefix_answer (without_repeats own_bytes (partial_trees names mode)) t)
  unique_partial-within names mode =
      prefix_answer-within (without_repeats own_bytes (partial_trees names mode)) t
      (repeats-advance own_bytes (partial_trees names mode) (trees-advances t _ (value_form mode) names))
