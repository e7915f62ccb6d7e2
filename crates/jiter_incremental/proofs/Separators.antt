-- A value or a key ends in a chunk, and the separator after it is taken with it.
use Rattle.jiter_incremental.proofs.Words.{◌≡◌, ◌⊎◌, ℕ, eq-eqb, ◌+◌, ◌-◌, ◌<◌, List, ◌++◌, length, refl, sym, subst}
use Rattle.jiter_incremental.proofs.Words.{ap, ◌∙◌, arith, inl, inr, None, get_or, slice_range, slice_get, slice_get_within, Some, Tree}
use Rattle.jiter_incremental.proofs.Words.{get_or_from_slice_get, length-append, is_blank, HasTakenIn, Next, between_tokens}
use Rattle.jiter_incremental.proofs.Words.{HasTakenTo, IsAt, IsHere, IsSettled, Separates, Steps, TakesSeparator, ahead, document}
use Rattle.jiter_incremental.proofs.Words.{OpenFrame, filled, Awaits, Reader}
use Rattle.jiter_incremental.specs.declared.reader.Awaits.TheVariants as awaits
use Rattle.jiter_incremental.specs.declared.reader.Token.TheVariants as token
use Rattle.jiter_incremental.proofs.Arms.{between-some, colon-passed, comma-between, comma-passed}
use Rattle.jiter_incremental.proofs.Chunks.{range-long}
use Rattle.jiter_incremental.proofs.Documents.{known-as, taken-between}
use Rattle.jiter_incremental.proofs.Documents.Tokens.{range-after}
use Rattle.jiter_incremental.proofs.Settling.{moves-here, one-slice}

-- Where no token is unfinished, a document is read as the same one is at another position.
placed : (m : Next) (r : Reader) (x : Tree) (a : ℕ) (t : List ℕ) → r.token ≡ token.Nothing → r.fault ≡ None
    → HasTakenIn m (document r x) t → HasTakenIn m (document (record r { at = a }) x) t
placed m r x a t none unset h =
    let d = document r x in
    let e = document (record r { at = a }) x in
    let b = taken-between m d t h unset none in
    let o = between_tokens b.state in
    record { opened = o; known = known-as m d e t o (refl, refl, refl) b.known; held = λ _. (none, b.left) }

module _ (level : ℕ) (chunk : List ℕ) (i : Reader) (v : Tree) (q : Reader) (w : Tree) (e : ℕ) (h : IsHere level chunk i v)
    (s : Steps level chunk i v q w (e - i.at)) (settled : q.token ≡ token.Nothing → IsSettled level q)
  where
    -- There is a separator.
    module _ (c : ℕ) (a : Awaits) (separates : Separates q.awaits c a) (none : q.token ≡ token.Nothing)
        (is : slice_get chunk e ≡ Some c)
      where
        abbrev there : Reader
        there = record q { at = e }

        abbrev past : Reader
        past = record q { awaits = a }

        begins : i.at < e
        begins = by s.moves.some where
          by : (0 < e - i.at) ⊎ (q.depth < level) → i.at < e
          by (inl some) = omega (arith, some)
          by (inr less) = absurd (omega (arith, less, (settled none).1))

        more : e < length chunk
        more = slice_get_within chunk e c is

        taken-there : (t : List ℕ) (outer : List OpenFrame) → IsAt level outer → HasTakenTo chunk i (filled outer v) t
            → HasTakenTo chunk there (filled outer w) (t ++ slice_range chunk i.at e)
        taken-there t outer at r =
            let x = filled outer w in
            let end : i.at + (e - i.at) ≡ e = omega (arith, begins) in
            let got = subst (λ m. HasTakenIn (ahead q chunk m) (document q x) (t ++ slice_range chunk i.at m)) end
            (s.goes t outer at r) in
            let long : length (slice_range chunk i.at e) ≡ e - i.at =
            ap (λ k. length (slice_range chunk i.at k)) (sym end)
            ∙ range-long chunk i.at (e - i.at) s.moves.within in
            record {
              read = placed (ahead q chunk e) q x e (t ++ slice_range chunk i.at e) none (settled none).0 got;
              position = omega (arith, s.moves.still.1, r.position, length-append t (slice_range chunk i.at e), long, begins);
            }

        here : IsHere level chunk there w
        here =
            let r = h.read in
            record {
              here = (settled none).1;
              low = h.low;
              inside = more;
              room = omega (arith, s.moves.still.1, h.room);
              unset = (settled none).0;
              read = (r.0 ++ slice_range chunk i.at e, r.1, r.2, taken-there r.0 r.1 r.2 r.3);
            }

        byte : get_or chunk e 0 ≡ c
        byte = get_or_from_slice_get chunk e c 0 is

        one : Steps level chunk there w (record there { awaits = a }) w 1
        one = by q.awaits refl separates where
          by : (b : Awaits) → q.awaits ≡ b → Separates b c a → Steps level chunk there w (record there { awaits = a }) w 1
          by awaits.Comma awaited sep =
              let comma : get_or chunk e 0 ≡ 44 = byte ∙ sep.0 in
              let some = between-some level chunk there w here none (comma-between q.awaits awaited) in
              subst (λ b. Steps level chunk there w (record there { awaits = b }) w 1) (sym sep.1)
              (comma-passed level chunk there w here none some awaits.Comma awaited tt (ap is_blank comma) refl comma)
          by awaits.Colon awaited sep =
              let colon : get_or chunk e 0 ≡ 58 = byte ∙ sep.0 in
              subst (λ b. Steps level chunk there w (record there { awaits = b }) w 1) (sym sep.1)
              (colon-passed level chunk there w here none awaited (ap is_blank colon) (eq-eqb (get_or chunk e 0) 58 colon))
          by b awaited sep = absurd sep

        separator-taken : Steps level chunk i v past w (e + 1 - i.at)
        separator-taken =
            let end : i.at + (e + 1 - i.at) ≡ e + 1 = omega (arith, begins) in
            record {
              goes = λ t outer at r.
                  let x = filled outer w in
                  let u = t ++ slice_range chunk i.at e in
                  let next = ahead past chunk (e + 1) in
                  let bytes : u ++ slice_range chunk e (e + 1) ≡ t ++ slice_range chunk i.at (e + 1) =
                  ap (λ b. u ++ b) (one-slice chunk e more) ∙ range-after t chunk i.at e (omega (arith, begins)) more in
                  let all = subst (HasTakenIn next (document (record there { awaits = a }) x)) bytes
                  (one.goes u outer at (taken-there t outer at r)) in
                  subst (λ m. HasTakenIn (ahead past chunk m) (document past x) (t ++ slice_range chunk i.at m)) (sym end)
                  (placed next (record there { awaits = a }) x q.at (t ++ slice_range chunk i.at (e + 1)) none (settled none).0 all);
              moves =
                  moves-here level chunk i h.here h.low past (e + 1 - i.at) (omega (arith, begins)) (omega (arith, end, more))
                  s.moves.still ((settled none).1 ∙ sym h.here);
            }

    pub with-separator : (j k : Reader) (n : ℕ) → j ≡ q → TakesSeparator chunk e j k n → Steps level chunk i v k w (n - k.at)
    with-separator j k n same takes =
        by (subst (λ r. TakesSeparator chunk e r k n) same takes)
      where
        by : TakesSeparator chunk e q k n → Steps level chunk i v k w (n - k.at)
        by (inl (end, is)) =
            subst (λ (r : Reader). Steps level chunk i v r w (n - r.at)) (sym is)
            (subst (λ a. Steps level chunk i v q w (n - a)) (sym s.moves.still.2)
            (subst (λ m. Steps level chunk i v q w (m - i.at)) (sym end) s))
        by (inr (c, a, separates, none, there, end, is)) =
            let past = record q { awaits = a } in
            subst (λ (r : Reader). Steps level chunk i v r w (n - r.at)) (sym is)
            (subst (λ b. Steps level chunk i v past w (n - b)) (sym s.moves.still.2)
            (subst (λ m. Steps level chunk i v past w (m - i.at)) (sym end) (separator-taken c a separates none there)))
