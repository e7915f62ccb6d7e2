-- Texts whose end is other bytes: a prefix, a filler and closers.
use Rattle.jiter_steps.proofs.Words.{◌≡◌, ℕ, ◌+◌, ◌≤◌, true, List, [], ◌∷◌, ◌++◌, length, take, refl, sym, ap, ◌∙◌}
use Rattle.jiter_steps.proofs.Words.{arith, length-append, slice_get, Some, slice_get_within, slice_get-get_or}
use Rattle.jiter_steps.proofs.Words.{get_or_from_slice_get, IsBlank, IsFiller, AreClosers, can_go_on, StandsAfter}
use Rattle.jiter_steps.proofs.Words.{Reading, done, fault, get_or_append_left, get_or-append-add}
use Rattle.jiter_steps.proofs.Cut.DocumentPrefixes.{prefix-length, prefix-get}
use Rattle.jiter_steps.proofs.Fault.SameSpelling.{SameBefore, blanks-too}

-- with some filler and closers after the bytes before x the text is so
pub record CanClose (t : List ℕ) (x : ℕ) (Is : List ℕ → Type 0) : Type 0 where
  pub filler : List ℕ
  pub closers : List ℕ
  pub is_filler : IsFiller filler
  pub are_closers : AreClosers closers
  pub within : x ≤ length t
  pub is : Is (take x t ++ (filler ++ closers))

pub close-map : (t : List ℕ) (x : ℕ) (Is Then : List ℕ → Type 0)
    → ((w : List ℕ) → x ≤ length t → Is (take x t ++ w) → Then (take x t ++ w)) → CanClose t x Is → CanClose t x Then
close-map t x Is Then all h = record {
  filler = h.filler;
  closers = h.closers;
  is_filler = h.is_filler;
  are_closers = h.are_closers;
  within = h.within;
  is = all (h.filler ++ h.closers) h.within h.is;
}

-- at an error that can go on
abbrev pub OpenTo : {A : Type 0} → (ℕ → Type 0) → Reading A → Type 0
OpenTo At (done a e) = Unit {0}
OpenTo At (fault k x stop) = can_go_on k ≡ true → At x

pub open-map : {A : Type 0} (At Then : ℕ → Type 0) → ((x : ℕ) → At x → Then x) → (y : Reading A) → OpenTo At y
    → OpenTo Then y
open-map At Then all (done a e) h = tt
open-map At Then all (fault k x stop) h = λ live. all x (h live)

-- a text keeps its bytes where others are put after them
pub longer-same : (a b : List ℕ) (k : ℕ) → SameBefore a (a ++ b) k
longer-same a b k j c lt e =
    let inside = slice_get_within a j c e in
    slice_get-get_or (a ++ b) j 0 (omega (arith, length-append a b))
    ∙ ap Some (get_or_append_left a b 0 j inside ∙ get_or_from_slice_get a j c 0 e)

pub after-prefix : (a b : List ℕ) (n c : ℕ) → slice_get b n ≡ Some c → slice_get (a ++ b) (length a + n) ≡ Some c
after-prefix a b n c e =
    let inside = slice_get_within b n c e in
    slice_get-get_or (a ++ b) (length a + n) 0 (omega (arith, length-append a b))
    ∙ ap Some (get_or-append-add a b n 0 ∙ get_or_from_slice_get b n c 0 e)

-- no whitespace
pub no-blanks : (u : List ℕ) (i j : ℕ) → i ≡ j → j ≤ length u → IsBlank u i j
no-blanks u i j e le = record { ordered = omega arith; within = le; each = λ k l h. absurd (omega arith) }

-- a byte at the end, after whitespace
pub ends-after : (u : List ℕ) (i c : ℕ) → IsBlank u i (length u)
    → StandsAfter (u ++ c ∷ []) i c (length (u ++ c ∷ []))
ends-after u i c b = record {
  at = length u;
  blanks = blanks-too u (u ++ c ∷ []) (length u) (longer-same u (c ∷ []) (length u)) i (length u) (omega arith) b;
  here = ap (slice_get (u ++ c ∷ [])) (omega arith) ∙ after-prefix u (c ∷ []) 0 c refl;
  ends = length-append u (c ∷ []);
}

module _ (t : List ℕ) (x : ℕ) (within : x ≤ length t) where
  pub taken-length : (w : List ℕ) → length (take x t ++ w) ≡ x + length w
  taken-length w = omega (arith, length-append (take x t) w, prefix-length t x within)

  pub prefix-kept : (w : List ℕ) → SameBefore t (take x t ++ w) x
  prefix-kept w j c lt e = longer-same (take x t) w x j c lt (prefix-get t x within j c lt e)

  -- a byte of what is put after the prefix
  pub taken-after : (w : List ℕ) (n c : ℕ) → slice_get w n ≡ Some c → slice_get (take x t ++ w) (x + n) ≡ Some c
  taken-after w n c e =
      ap (λ m. slice_get (take x t ++ w) (m + n)) (sym (prefix-length t x within)) ∙ after-prefix (take x t) w n c e

  pub taken-first : (w : List ℕ) (c : ℕ) → slice_get w 0 ≡ Some c → slice_get (take x t ++ w) x ≡ Some c
  taken-first w c e = ap (slice_get (take x t ++ w)) (omega arith) ∙ taken-after w 0 c e
