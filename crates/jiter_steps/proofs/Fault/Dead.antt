-- Where an error of a byte is returned, no document begins with the bytes up to its index.
use Rattle.jiter_steps.proofs.Words.{◌≡◌, ◌≢◌, ℕ, ◌+◌, Bool, false, List, ◌++◌, take, refl, sym, ap, ◌∙◌, subst, arith}
use Rattle.jiter_steps.proofs.Words.{Some, get_or-take, length-take, slice_get_within, slice_get-get_or}
use Rattle.jiter_steps.proofs.Words.{get_or_from_slice_get, none-some, Kind, is_end_kind, invalid_code_point, number_at}
use Rattle.jiter_steps.proofs.Words.{Scanned, taken, failed, seen_as, whole_trees, nothing_forgiven, answer, literal_at}
use Rattle.jiter_steps.proofs.Words.{word_of, fault, whole, string_at, BeginsNoDocument}
use Rattle.jiter_steps.proofs.Fault.Completions.{longer-same}
use Rattle.jiter_steps.proofs.Fault.SameSpelling.{SameBefore}
use Rattle.jiter_steps.proofs.Fault.SameRuns.{IsOfByte}
use Rattle.jiter_steps.proofs.Fault.SameNumbers.{late-byte, Same, word-same, number-same}
use Rattle.jiter_steps.proofs.Fault.SameReadings.{IsFault, KeepsScalars, ShownFault, whole_answer-stays}
use Rattle.jiter_steps.proofs.Fault.SameStrings.{IsRefused, SameScalar, string-same}
use Rattle.jiter_steps.proofs.Grammar.Documents.{answer-of}
use Rattle.jiter_steps.proofs.Reading.Instances.{trees-advances}

-- Rules that see what was read.
module _ (t u : List ℕ) (m : ℕ) (same : SameBefore t u m) where
  seen-same : {A B : Type 0} (f : A → ℕ → B) (i : ℕ) (x y : Scanned A) → SameScalar t m i x y
      → SameScalar t m i (seen_as f x) (seen_as f y)
  seen-same f i (taken a e) y h = λ shown. let at = h shown in (at.0, ap (seen_as f) at.1)
  seen-same f i (failed k j) (taken b e) h = λ shown. absurd (h shown).1
  seen-same f i (failed k j) (failed l x) h = h

  kept : {A : Type 0} (i : ℕ) (x y : Scanned A) → Same (IsOfByte t m) (late-byte t m) t u m same i x y → SameScalar t m i x y
  kept i (taken a e) y h shown = let at = h shown in (at.0, at.2)
  kept i (failed k j) y h shown = let at = h shown in (at.0, subst IsRefused (sym at.2) tt)

  pub trees-keep : (names : Bool) → KeepsScalars (whole_trees names) t u m
  trees-keep names = record {
    literal = λ l i lt. seen-same _ i _ _ (kept i (literal_at t l i) (literal_at u l i)
        (word-same (IsOfByte t m) (late-byte t m) t u m same (word_of l) i));
    number = λ i lt. seen-same _ i _ _ (kept i (number_at names t i) (number_at names u i)
        (number-same (IsOfByte t m) (late-byte t m) t u m same names i lt));
    text = λ i lt. seen-same _ i (string_at whole t i) (string_at whole u i) (string-same t u m same i);
    key = λ i lt. string-same t u m same i;
    refuses = λ members i f lt h shown. absurd (none-some f h);
    frees = λ members i e j k lt key colon le l h. refl;
  }

-- An error of a byte before m is an error of the other text.
pub answer-stays : (names : Bool) (t u : List ℕ) (m : ℕ) → SameBefore t u m → ShownFault t m (answer names t)
    → IsFault (answer names u)
answer-stays names t u m same =
    whole_answer-stays t u m same (whole_trees names) (λ k. refl) (trees-advances t nothing_forgiven whole names)
    (trees-advances u nothing_forgiven whole names) (trees-keep t u m same names)

-- a prefix of a text, with whatever follows it
pub prefix-same : (t : List ℕ) (k : ℕ) (rest : List ℕ) → SameBefore t (take k t ++ rest) k
prefix-same t k rest j c le e =
    let lt = slice_get_within t j c e in
    let here = slice_get-get_or (take k t) j 0 (omega (arith, length-take k t)) in
    longer-same (take k t) rest k j c le (here ∙ ap Some (get_or-take k t j 0 le ∙ get_or_from_slice_get t j c 0 e))

-- Where an error is returned that is neither one of the input's end nor one of UTF-8, no document begins with the bytes
-- of the text up to and including the one at the error's index.
pub dead : (names : Bool) (t : List ℕ) (k : Kind) (i stop : ℕ) → answer names t ≡ fault k i stop
    → is_end_kind k ≡ false → k ≢ invalid_code_point → BeginsNoDocument names (take (i + 1) t)
dead names t k i stop is byte utf8 rest n d =
    let u = take (i + 1) t ++ rest in
    let shown = subst (ShownFault t (i + 1)) (sym is) (omega arith, (byte, λ is. absurd (utf8 is))) in
    subst IsFault (answer-of names u n d) (answer-stays names t u (i + 1) (prefix-same t (i + 1) rest) shown)
