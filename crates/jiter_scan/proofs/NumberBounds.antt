-- How far the reading of a number gets.
use Rattle.jiter_scan.proofs.Words.{◌≡◌, ℕ, ◌+◌, ◌<◌, ◌≤◌, Bool, ◌||◌, List, [], ◌∷◌, length, refl, arith, slice_get}
use Rattle.jiter_scan.proofs.Words.{Option, Some, None, ◌==◌, false≢true, slice_get_within, eof_value, invalid_number}
use Rattle.jiter_scan.proofs.Words.{Number, IsNumberText, int_part_at, number_span, with_value, number_at, int_seen}
use Rattle.jiter_scan.proofs.Words.{is_float_sign, integer_or_float, integer_after, integer_after_minus, integer_from}
use Rattle.jiter_scan.proofs.Words.{int_at, begins_number, number_alone, int_alone, Scanned, taken, failed, Stands}
use Rattle.jiter_scan.proofs.Words.{Span, Integer, float_seen, alone, integer_alone, if_number}
use Rattle.jiter_scan.proofs.Choices.{if_case}
use Rattle.jiter_scan.proofs.NumberBytes.{number-not_empty}
use Rattle.jiter_scan.proofs.NumberSound.{Spelled, int_part-spelled, number-spelled}
use Rattle.jiter_scan.proofs.NumberRows.{Part}
use Rattle.jiter_scan.proofs.Scanning.{ScalarWithin, Within, FaultAt}
use Rattle.jiter_scan.proofs.Standing.{get-none, stands-length, stands-within}

module _ (t : List ℕ) where
  over : (i : ℕ) → i ≤ length t → slice_get t i ≡ None → FaultAt t eof_value i
  over i le none =
      let past = get-none t i none in record { within = le; ends = λ h. omega arith; bytes = λ e. cc }

  refused : (i : ℕ) → i ≤ length t → FaultAt t invalid_number i
  refused i le = record { within = le; ends = λ h. absurd (false≢true h); bytes = λ e. cc }

  spelled-within : (Is : Part) (i : ℕ) (x : Span) → i ≤ length t → Spelled t Is i x → Within t x
  spelled-within Is i (taken u e) le s = stands-within t i e s.0 le s.1
  spelled-within Is i (failed k j) le s = (s.0 le).1

  int_part-within : (i : ℕ) → i ≤ length t → Within t (int_part_at t i)
  int_part-within i le = spelled-within _ i (int_part_at t i) le (int_part-spelled t i)

  integer_or_float-within : (i e : ℕ) (o : Option ℕ) → e ≤ length t → Within t (integer_or_float t i e o)
  integer_or_float-within i e None h = h
  integer_or_float-within i e (Some c) h =
      if_case (Within t) (is_float_sign c) _ _ (λ _. h) (λ _. h)

  integer_after-within : (i : ℕ) (x : Span) → Within t x → Within t (integer_after t i x)
  integer_after-within i (taken u e) h = integer_or_float-within i e (slice_get t e) h
  integer_after-within i (failed k e) h = h

  integer_after_minus-within : (i : ℕ) (o : Option ℕ) → slice_get t (i + 1) ≡ o → i + 1 ≤ length t
      → Within t (integer_after_minus t i o)
  integer_after_minus-within i None s le = over (i + 1) le s
  integer_after_minus-within i (Some c) s le =
      if_case (Within t) (c == 73) _ _
      (λ _. le) (λ _. integer_after-within i (int_part_at t (i + 1)) (int_part-within (i + 1) le))

  integer_from-within : (i : ℕ) (o : Option ℕ) → slice_get t i ≡ o → i ≤ length t → Within t (integer_from t i o)
  integer_from-within i None s le = over i le s
  integer_from-within i (Some c) s le =
      let lt = slice_get_within t i c s in
      if_case (Within t) (c == 45) _ _ (λ _. integer_after_minus-within i (slice_get t (i + 1)) refl (omega arith))
      (λ _. if_case (Within t) ((c == 78) || (c == 73)) _ _
      (λ _. le) (λ _. integer_after-within i (int_part_at t i) (int_part-within i le)))

  alone-within : (x : Scanned Number) → Within t x → Within t (alone t x)
  alone-within (taken n e) h =
      if_case (Within t) (length t == e) _ _ (λ _. h)
      (λ _. refused e h)
  alone-within (failed k j) h = h

  integer_alone-within : (x : Scanned Integer) → Within t x → Within t (integer_alone x)
  integer_alone-within (taken (int_seen n) e) h = h
  integer_alone-within (taken float_seen j) h = refused j h
  integer_alone-within (failed k j) h = h

  if_number-within : (o : Option ℕ) (x : Scanned Number) → Within t x → Within t (if_number o x)
  if_number-within None x h = refused 0 (omega arith)
  if_number-within (Some c) x h =
      if_case (Within t) (begins_number c) _ _ (λ _. h)
      (λ _. refused 0 (omega arith))

  ahead : (names : Bool) (i e : ℕ) (w : List ℕ) → Stands t i e w → IsNumberText names w → i < e
  ahead names i e [] s is = absurd (number-not_empty names is)
  ahead names i e (c ∷ w) s is = let n = stands-length t i e (c ∷ w) s in omega arith

  with_value-within : (names : Bool) (i : ℕ) (x : Span) → i ≤ length t → Spelled t (IsNumberText names) i x
      → ScalarWithin t i (with_value t i x)
  with_value-within names i (taken u e) le s = (ahead names i e s.0 s.1 s.2, stands-within t i e s.0 le s.1)
  with_value-within names i (failed k j) le s = s.0 le

  inside : (i : ℕ) (x : Scanned Number) → ScalarWithin t i x → Within t x
  inside i (taken n e) h = h.1
  inside i (failed k j) h = h.1

  -- a number takes a byte or more, and no step leaves the text
  scalar-within : (names : Bool) (i : ℕ) → i ≤ length t → ScalarWithin t i (number_at names t i)
  unfolding number_at
  scalar-within names i le = with_value-within names i (number_span names t i) le (number-spelled t names i)

pub number_at-within : (names : Bool) (t : List ℕ) (i : ℕ) → i < length t → ScalarWithin t i (number_at names t i)
number_at-within names t i lt = scalar-within t names i (omega arith)

-- an integer ends within the text, and so does a float that is seen
pub int_at-within : (t : List ℕ) (i : ℕ) → i ≤ length t → Within t (int_at t i)
unfolding int_at
int_at-within t i le = integer_from-within t i (slice_get t i) refl le

-- what is refused of a whole text is an error of its bytes
pub number_alone-within : (names : Bool) (t : List ℕ) → Within t (number_alone names t)
number_alone-within names t =
    if_number-within t (slice_get t 0) (alone t (number_at names t 0))
    (alone-within t (number_at names t 0) (inside t 0 (number_at names t 0) (scalar-within t names 0 (omega arith))))

pub int_alone-within : (t : List ℕ) → Within t (int_alone t)
int_alone-within t =
    if_number-within t (slice_get t 0) (alone t (integer_alone (int_at t 0)))
    (alone-within t (integer_alone (int_at t 0))
    (integer_alone-within t (int_at t 0) (int_at-within t 0 (omega arith))))
