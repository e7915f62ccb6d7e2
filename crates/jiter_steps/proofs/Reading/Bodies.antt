-- A body, a part at a time.
use Rattle.jiter_steps.proofs.Words.{◌≡◌, ℕ, zero, suc, ◌+◌, ◌<◌, ◌≤◌, ◌||◌, Bool, true, false, List, ◌++◌, length}
use Rattle.jiter_steps.proofs.Words.{refl, sym, ap, ◌∙◌, arith, append_assoc, length-append, slice_get_past}
use Rattle.jiter_steps.proofs.Words.{slice_get_within, Stop, unclosed, wrong, Event, part, over, event_by, event_at}
use Rattle.jiter_steps.proofs.Words.{Body, before, join, body_within, body_at}
use Rattle.jiter_steps.specs.StringReading.{closed}
use Rattle.jiter_steps.proofs.Grammar.Places.{IsPlaceKind, Explains, event_at-explains}

pub before-before : (a b : List ℕ) (o p : Bool) (r : Body) → before a o (before b p r) ≡ before (a ++ b) (o || p) r
before-before a b true p r =
    ap (λ l. record { bytes = l; owned = true; stop = r.stop }) (sym (append_assoc a b r.bytes))
before-before a b false p r =
    ap (λ l. record { bytes = l; owned = p || r.owned; stop = r.stop }) (sym (append_assoc a b r.bytes))

pub part-ahead : (t : List ℕ) (i j : ℕ) (bs : List ℕ) (o : Bool) → Explains t i (part bs o j) → (i < j) × (j ≤ length t)
part-ahead t i j bs true h = (h.ahead, h.within)
part-ahead t i j bs false h =
    let inside = slice_get_within t i h.byte h.here in (omega (arith, h.ends), omega (arith, h.ends))

pub event_by-end : (t : List ℕ) (i : ℕ) → length t ≤ i → event_at t i ≡ over unclosed
unfolding event_at
event_by-end t i h = ap (event_by t i) (slice_get_past t i h)

module _ (t : List ℕ) where
  enough-join : (n m i : ℕ) → length t ≤ suc n + i → length t ≤ suc m + i
      → ((j : ℕ) → length t ≤ n + j → length t ≤ m + j → body_within n t j ≡ body_within m t j)
      → (f : Event) → Explains t i f → join (body_within n t) f ≡ join (body_within m t) f
  enough-join n m i p q go (part bs o j) h =
      let a = part-ahead t i j bs o h in ap (before bs o) (go j (omega arith) (omega arith))
  enough-join n m i p q go (over s) h = refl

  enough : (n m i : ℕ) → length t ≤ n + i → length t ≤ m + i → body_within n t i ≡ body_within m t i
  unfolding body_within
  enough zero zero i p q = refl
  enough zero (suc m) i p q = sym (ap (join (body_within m t)) (event_by-end t i (omega arith)))
  enough (suc n) zero i p q = ap (join (body_within n t)) (event_by-end t i (omega arith))
  enough (suc n) (suc m) i p q =
      enough-join n m i p q (λ j x y. enough n m j x y) (event_at t i) (event_at-explains t i)

  -- after this no proof speaks of turns
  pub body_at-is : (i : ℕ) → body_at t i ≡ join (body_at t) (event_at t i)
  unfolding body_at body_within
  body_at-is i = enough (length t) (suc (length t)) i (omega arith) (omega arith)

  pub body_at-event_by : (i : ℕ) (f : Event) → event_at t i ≡ f → body_at t i ≡ join (body_at t) f
  body_at-event_by i f e = body_at-is i ∙ ap (join (body_at t)) e

  -- What holds where a string is over, and of a body where it holds of what is after its first part, holds of all.
  module _ (P : ℕ → Body → Type 0)
      (after-part : (i j : ℕ) (bs : List ℕ) (o : Bool) → Explains t i (part bs o j) → P j (body_at t j)
      → P i (before bs o (body_at t j)))
      (at-end : (i : ℕ) (s : Stop) → Explains t i (over s) → P i (join (body_at t) (over s))) where
    by-place : (i : ℕ) → ((j : ℕ) → i < j → P j (body_at t j)) → (f : Event) → Explains t i f
        → P i (join (body_at t) f)
    by-place i go (part bs o j) h = after-part i j bs o h (go j (part-ahead t i j bs o h).0)
    by-place i go (over s) h = at-end i s h

    by-turns : (n i : ℕ) → length t ≤ n + i → P i (body_at t i)
    by-turns zero i p =
        let past : length t ≤ i = omega arith in
        rw (body_at-event_by i (over unclosed) (event_by-end t i past)) (at-end i unclosed (slice_get_past t i past))
    by-turns (suc n) i p =
        rw (body_at-is i) (by-place i (λ j l. by-turns n j (omega arith)) (event_at t i) (event_at-explains t i))

    pub each-body : (i : ℕ) → P i (body_at t i)
    each-body i = by-turns (length t) i (omega arith)

  part-wide : (i j : ℕ) (bs : List ℕ) (o : Bool) → Explains t i (part bs o j) → i + length bs ≤ j
  part-wide i j bs true h = h.wide
  part-wide i j bs false h = omega (arith, h.ends, ap length h.is)

  -- a text is no longer than its source
  pub body_at-long : (i : ℕ) → i ≤ length t → i + length (body_at t i).bytes ≤ length t
  body_at-long =
      each-body (λ i b. i ≤ length t → i + length b.bytes ≤ length t)
      (λ i j bs o h go le.
      omega (arith, part-wide i j bs o h, go (part-ahead t i j bs o h).1, length-append bs (body_at t j).bytes))
      (λ i s h le. omega arith)

-- where a string stops that is read from i on: after i, or at an error of a place
abbrev pub StopWithin : List ℕ → ℕ → Stop → Type 0
StopWithin t i (closed e) = (i < e) × (e ≤ length t)
StopWithin t i (wrong k j) = (i ≤ j) × (j < length t) × IsPlaceKind k
StopWithin t i s = Unit {0}

stop-later : (t : List ℕ) (i j : ℕ) → i < j → (s : Stop) → StopWithin t j s → StopWithin t i s
stop-later t i j l (closed e) h = (omega (arith, h.0), h.1)
stop-later t i j l (wrong k x) h = (omega (arith, h.0), h.1, h.2)
stop-later t i j l s h = tt

stop-over : (t : List ℕ) (i : ℕ) (s : Stop) → Explains t i (over s) → StopWithin t i s
stop-over t i (closed e) h = let inside = slice_get_within t i 34 h.0 in (omega (arith, h.1), omega (arith, h.1))
stop-over t i (wrong k j) h = h
stop-over t i s h = tt

pub body_at-within : (t : List ℕ) (i : ℕ) → StopWithin t i (body_at t i).stop
body_at-within t =
    each-body t (λ i b. StopWithin t i b.stop)
    (λ i j bs o h go. stop-later t i j (part-ahead t i j bs o h).0 (body_at t j).stop go) (stop-over t)
