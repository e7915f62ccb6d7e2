-- A text is owned exactly where a backslash was read.
use Rattle.jiter_steps.proofs.Words.{◌≡◌, ℕ, ◌+◌, ◌-◌, ◌<◌, ◌≤◌, ◌==◌, ◌||◌, Bool, true, false, List, ◌++◌, length}
use Rattle.jiter_steps.proofs.Words.{take, drop, sym, ap, ◌∙◌, subst, arith, slice_get, slice_range, Some, list_any}
use Rattle.jiter_steps.proofs.Words.{ne_eqb, slice_get_within, slice_range-split, slice-one, get-none, has_backslash}
use Rattle.jiter_steps.proofs.Words.{Stop, unclosed, cut, wrong, part, over, Body, before, join, body_at}
use Rattle.jiter_steps.specs.StringReading.{closed}
use Rattle.jiter_steps.proofs.Grammar.Places.{Explains}
use Rattle.jiter_steps.proofs.Reading.Bodies.{part-ahead, each-body}

-- where a string ends: after its quote or with the input
abbrev pub EndOf : List ℕ → Stop → ℕ → Type 0
EndOf t (closed f) e = f ≡ e
EndOf t (wrong k j) e = ⊥
EndOf t s e = length t ≡ e

module _ (t : List ℕ) where
  -- of the bytes from i on, the first and the others
  has_backslash-next : (i c e : ℕ) → i < e → slice_get t i ≡ Some c
      → has_backslash t i e ≡ ((c == 92) || has_backslash t (i + 1) e)
  has_backslash-next i c e l h =
      ap (list_any (λ c. c == 92))
      (slice_range-split t i (i + 1) (omega arith) e (omega arith)
      ∙ ap (λ w. w ++ slice_range t (i + 1) e) (slice-one t i c h))

  has_backslash-none : (i e : ℕ) → e ≤ i → has_backslash t i e ≡ false
  has_backslash-none i e h =
      let none : e - i ≡ 0 = omega arith in ap (λ n. list_any (λ c. c == 92) (take n (drop i t))) none

  module _ (e : ℕ) where
    -- the mark of a body at i, where its string ends at e
    abbrev Marked : ℕ → Body → Type 0
    Marked i b = i ≤ length t → EndOf t b.stop e → (b.owned ≡ has_backslash t i e) × (i ≤ e)

    part-marked : (i j : ℕ) (bs : List ℕ) (o : Bool) → Explains t i (part bs o j) → Marked j (body_at t j)
        → Marked i (before bs o (body_at t j))
    part-marked i j bs true h go le s =
        let r = go h.within s in
        (sym (has_backslash-next i 92 e (omega (arith, h.ahead, r.1)) h.backslash), omega (arith, h.ahead, r.1))
    part-marked i j bs false h go le s =
        let r = go (part-ahead t i j bs false h).1 s in
        let first = has_backslash-next i h.byte e (omega (arith, h.ends, r.1)) h.here in
        let rest = subst (λ k. (body_at t j).owned ≡ has_backslash t k e) h.ends r.0 in
        (rw (first, ne_eqb h.byte 92 h.no_backslash) rest, omega (arith, h.ends, r.1))

    over-marked : (i : ℕ) (s : Stop) → Explains t i (over s) → Marked i (join (body_at t) (over s))
    over-marked i (closed f) h le s =
        let none = has_backslash-none (i + 1) e (omega (arith, s, h.1)) in
        (sym (has_backslash-next i 34 e (omega (arith, s, h.1)) h.0 ∙ none), omega (arith, s, h.1))
    over-marked i unclosed h le s =
        (sym (has_backslash-none i e (omega (arith, s, get-none t i h))), omega (arith, s))
    over-marked i cut h le s =
        let inside = slice_get_within t i 92 h.0 in
        (sym (has_backslash-next i 92 e (omega (arith, s)) h.0), omega (arith, s))
    over-marked i (wrong k j) h le s = absurd s

  -- the mark of a body whose string ends at e
  body-marked : (i e : ℕ) → i ≤ length t → EndOf t (body_at t i).stop e
      → ((body_at t i).owned ≡ has_backslash t i e) × (i ≤ e)
  body-marked i e = each-body t (Marked e) (part-marked e) (over-marked e) i

-- the mark of a string that begins at i and ends at e
pub mark-is : (t : List ℕ) (i e : ℕ) → slice_get t i ≡ Some 34 → e ≤ length t → EndOf t (body_at t (i + 1)).stop e
    → (body_at t (i + 1)).owned ≡ has_backslash t i e
mark-is t i e q within s =
    let inside = slice_get_within t i 34 q in
    let r = body-marked t (i + 1) e (omega arith) s in
    r.0 ∙ sym (has_backslash-next t i 34 e (omega (arith, r.1)) q)
