-- Where an error of a byte is returned, that of a repeated key too, no document with unique keys begins with the bytes
-- up to its index.
use Rattle.jiter_steps.proofs.Words.{◌≡◌, ◌≢◌, ℕ, ◌+◌, ◌<◌, ◌≤◌, ◌==◌, Bool, false, List, ◌++◌, map, take, refl, sym}
use Rattle.jiter_steps.proofs.Words.{ap, ◌∙◌, subst, arith, cond, slice_get, Option, Some, None, none-some}
use Rattle.jiter_steps.proofs.Words.{slice_get_within, Kind, is_end_kind, invalid_code_point, span_then, Scanned}
use Rattle.jiter_steps.proofs.Words.{taken, failed, whole_trees, nothing_forgiven, past_blanks, Rules, fault, step}
use Rattle.jiter_steps.proofs.Words.{colon, value_first, object_colon, whole, string_at, Text, Tree, is_among}
use Rattle.jiter_steps.proofs.Words.{after_its_colon, repeated_key, without_repeats, own_bytes, unique_answer}
use Rattle.jiter_steps.proofs.Words.{cond_some, BeginsNoUniqueDocument}
use Rattle.jiter_steps.proofs.Fault.Dead.{trees-keep, prefix-same}
use Rattle.jiter_steps.proofs.Fault.SameReadings.{IsFault, KeepsScalars, ShownFault, whole_answer-stays}
use Rattle.jiter_steps.proofs.Fault.SameRuns.{past_blanks-same}
use Rattle.jiter_steps.proofs.Fault.SameSpelling.{SameBefore}
use Rattle.jiter_steps.proofs.Fault.SameStrings.{SameScalar, string-same}
use Rattle.jiter_steps.proofs.Grammar.Blanks.{past_blanks-after}
use Rattle.jiter_steps.proofs.Reading.Bounds.{either}
use Rattle.jiter_steps.proofs.Reading.Instances.{trees-advances}
use Rattle.jiter_steps.proofs.Unique.Documents.{unique-complete}
use Rattle.jiter_steps.proofs.Unique.Within.{repeats-advance}

abbrev rules : Bool → Rules Text Tree
rules names = without_repeats own_bytes (whole_trees names)

-- the place of a colon, where a value begins after it
record ColonAt (t : List ℕ) (e j : ℕ) : Type 0 where
  byte : ℕ
  here : slice_get t (past_blanks t e) ≡ Some byte
  before : past_blanks t e < j

module _ (t : List ℕ) (e j : ℕ) where
  value-here : (c p : ℕ) → past_blanks t e ≡ p → slice_get t p ≡ Some c → (q : ℕ) → p + 1 ≤ q → (o : Option ℕ)
      → value_first q o ≡ taken tt j → ColonAt t e j
  value-here c p at here q le None is = absurd (cc)
  value-here c p at here q le (Some d) is =
      let same : q ≡ j = cc in
      record { byte = c; here = ap (slice_get t) at ∙ here; before = omega (arith, at, le) }

  byte-here : (p : ℕ) → past_blanks t e ≡ p → (o : Option ℕ) → slice_get t p ≡ o
      → span_then (colon p o) (step t value_first) ≡ taken tt j → ColonAt t e j
  byte-here p at None here is = absurd (cc)
  byte-here p at (Some c) here is =
      either (λ x. span_then x (step t value_first) ≡ taken tt j → ColonAt t e j) (c == 58) (taken tt (p + 1)) _
      (value-here c p at here (past_blanks t (p + 1)) (past_blanks-after t (p + 1))
      (slice_get t (past_blanks t (p + 1))))
      (λ is. absurd (cc)) is

  colon-at : object_colon t e ≡ taken tt j → ColonAt t e j
  colon-at is = byte-here (past_blanks t e) refl (slice_get t (past_blanks t e)) refl is

module _ (t u : List ℕ) (m : ℕ) (same : SameBefore t u m) where
  colon-too : (e c : ℕ) → slice_get t (past_blanks t e) ≡ Some c → past_blanks t e < m
      → step u colon e ≡ step t colon e
  colon-too e c here lt =
      let p = past_blanks t e in
      let place = past_blanks-same t u m same e p c refl here lt in
      ap (λ j. colon j (slice_get u j)) place ∙ ap (colon p) (same p c lt here ∙ sym here)

  -- a key and the byte after it that are before m give the same in the other text
  key-too : (keys : List (List ℕ)) (i e c : ℕ) (k : Text) → string_at whole t i ≡ taken k e
      → slice_get t (past_blanks t e) ≡ Some c → past_blanks t e < m
      → (i < m) × (repeated_key own_bytes keys u (string_at whole u i)
      ≡ repeated_key own_bytes keys t (taken k e))
  key-too keys i e c k key here lt =
      let ahead = past_blanks-after t e in
      let inside = slice_get_within t (past_blanks t e) c here in
      let also = subst (λ x. SameScalar t m i x (string_at whole u i)) key (string-same t u m same i)
      (omega arith, omega arith) in (
        also.0,
        ap (repeated_key own_bytes keys u) also.1
            ∙ ap (λ x. cond (is_among k.bytes keys) (after_its_colon k.bytes x) None) (colon-too e c here lt),
      )

  refused-too : (keys : List (List ℕ)) (i : ℕ) (f : Kind × ℕ) (x : Scanned Text) → string_at whole t i ≡ x
      → repeated_key own_bytes keys t x ≡ Some f → f.1 < m
      → (i < m) × (repeated_key own_bytes keys u (string_at whole u i) ≡ Some f)
  refused-too keys i f (failed k j) key is lt = absurd (none-some f is)
  refused-too keys i f (taken k e) key is lt = by (slice_get t (past_blanks t e)) refl is where
    p : ℕ
    p = past_blanks t e

    old : Option (Kind × ℕ) → Option (Kind × ℕ)
    old o = cond (is_among k.bytes keys) o None

    none : old None ≡ None
    none = either (λ o. o ≡ None) (is_among k.bytes keys) None None refl refl

    by : (o : Option ℕ) → slice_get t p ≡ o → old (after_its_colon k.bytes (colon p o)) ≡ Some f
        → (i < m) × (repeated_key own_bytes keys u (string_at whole u i) ≡ Some f)
    by None here at = absurd (none-some f (sym none ∙ at))
    by (Some c) here at =
        let before = either (λ x. old (after_its_colon k.bytes x) ≡ Some f → p < f.1) (c == 58) (taken tt (p + 1)) _
        (λ h. let place = ap (λ z. z.1) (cond_some (is_among k.bytes keys) _ f h).1 in omega (arith, place))
        (λ h. absurd (none-some f (sym none ∙ h))) at in
        let other = key-too keys i e c k key here (omega (arith, before, lt)) in
        (other.0, other.1 ∙ is)

  keys-keep : (names : Bool) → KeepsScalars (rules names) t u m
  keys-keep names =
      let plain = trees-keep t u m same names in
      record {
        literal = plain.literal;
        number = plain.number;
        text = plain.text;
        key = plain.key;
        refuses = λ ms i f lt is shown.
            refused-too (map (λ z. own_bytes z.0) ms) i f (string_at whole t i) refl is shown;
        frees = λ ms i e j k lt key after le l free.
            let at = colon-at t e j after in
            let keys = map (λ z. own_bytes z.0) ms in
            let other = key-too keys i e at.byte k key at.here (omega (arith, at.before, le)) in
            other.1 ∙ sym (ap (repeated_key own_bytes keys t) key) ∙ free;
      }

-- An error of a byte before m is an error of the other text.
pub unique-stays : (names : Bool) (t u : List ℕ) (m : ℕ) → SameBefore t u m → ShownFault t m (unique_answer names t)
    → IsFault (unique_answer names u)
unique-stays names t u m same =
    whole_answer-stays t u m same (rules names) (λ k. refl)
    (repeats-advance t own_bytes (whole_trees names) (trees-advances t nothing_forgiven whole names))
    (repeats-advance u own_bytes (whole_trees names) (trees-advances u nothing_forgiven whole names))
    (keys-keep t u m same names)

-- Where an error is returned that is neither one of the input's end nor one of UTF-8, no document with unique keys
-- begins with the bytes of the text up to and including the one at the error's index.
pub unique-dead : (names : Bool) (t : List ℕ) (k : Kind) (i stop : ℕ) → unique_answer names t ≡ fault k i stop
    → is_end_kind k ≡ false → k ≢ invalid_code_point → BeginsNoUniqueDocument names (take (i + 1) t)
unique-dead names t k i stop is byte utf8 rest n d =
    let u = take (i + 1) t ++ rest in
    let shown = subst (ShownFault t (i + 1)) (sym is) (omega arith, (byte, λ is. absurd (utf8 is))) in
    subst IsFault (unique-complete names u n d) (unique-stays names t u (i + 1) (prefix-same t (i + 1) rest) shown)
