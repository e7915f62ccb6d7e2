-- A string or a key of a chunk, in an open container whatever that is in: it is read whole, or begins there.
use Rattle.jiter_incremental.proofs.Words.{◌≡◌, ℕ, ◌+◌, ◌-◌, ◌≤◌, false, List, [], ◌∷◌, ◌++◌, length, refl}
use Rattle.jiter_incremental.proofs.Words.{sym, subst, ap, arith, slice_index, slice_range, Vec, Global, CowStr}
use Rattle.jiter_incremental.proofs.Words.{is_blank, members_frame, HasTaken, IsTextWithin, text_view, Tree}
use Rattle.jiter_incremental.proofs.Words.{PartialString, IsLeft, at_value, text_of, HasTakenIn}
use Rattle.jiter_incremental.proofs.Words.{any_bytes, in_key, with_byte, AwaitsKey, AwaitsValue, HasTakenTo, IsAt}
use Rattle.jiter_incremental.proofs.Words.{IsHere, Steps, document, OpenFrame, filled, Reader}
use Rattle.jiter_scan.specs.Ascii as ascii
use Rattle.jiter_incremental.specs.declared.reader.Awaits.TheVariants as awaits
use Rattle.jiter_incremental.specs.declared.reader.Token.TheVariants as token
use Rattle.jiter_incremental.proofs.Between.{key-read}
use Rattle.jiter_incremental.proofs.Documents.{follows-byte, known-in}
use Rattle.jiter_incremental.proofs.Documents.Strings.{key-taken}
use Rattle.jiter_incremental.proofs.Documents.Tokens.{string-begins}
use Rattle.jiter_incremental.proofs.Documents.WholeTokens.{text-follows, text-key, text-some}
use Rattle.jiter_incremental.proofs.Placing.{begins-there}
use Rattle.jiter_incremental.proofs.Settling.{steps-here, steps-run}

-- The buffer in which escapes are decoded is no part of a document.
pub buffer-steps : (level : ℕ) (chunk : List ℕ) (i : Reader) (v : Tree) (j : Reader) (w : Tree) (n : ℕ) (s : Vec ℕ Global)
    → Steps level chunk i v j w n → Steps level chunk i v (record j { buffer = s }) w n
buffer-steps level chunk i v j w n s h = record {
  goes = h.goes;
  moves = record {
    within = h.moves.within;
    some = h.moves.some;
    still = h.moves.still;
    depth = h.moves.depth;
    low = h.moves.low;
    calm = h.moves.calm;
  };
}

module _ (level : ℕ) (chunk : List ℕ) (i : Reader) (v : Tree) (h : IsHere level chunk i v)
    (none : i.token ≡ token.Nothing)
  where
    abbrev c : ℕ
    c = slice_index chunk i.at

    -- A string begins there.
    pub text-kept : AwaitsValue level chunk i v → is_blank c ≡ false → level ≤ 200 → c ≡ ascii.quote
        → (s : PartialString) (b : Vec ℕ Global) → HasTaken s []
        → Steps level chunk i v (record i {
          begin = i.base + i.at;
          token = token.Text;
          awaits = awaits.Value;
          string = s;
          buffer = b;
        }) v 1
    text-kept awaited other low quote s b fresh =
        let k = record i { begin = i.base + i.at; token = token.Text; awaits = awaits.Value; string = s; buffer = b } in
        steps-here level chunk i v k v h (refl, refl, refl, refl) refl
        (λ t outer at r.
        let d = document i (filled outer v) in
        let new = document k (filled outer v) in
        let b = begins-there level chunk i v h none awaited other low t outer at r in
        let held = record d { value = record d.value { awaits = awaits.Value } } in
        string-begins held new t c b.0 b.1 (refl, refl, refl) refl refl refl quote
        fresh)

    module _ (awaited : AwaitsKey level chunk i v) where
      -- A key does.
      pub key-kept : (s : PartialString) (b : Vec ℕ Global) → HasTaken s []
          → Steps level chunk i v (record i {
            begin = i.base + i.at;
            token = token.Key;
            awaits = awaits.Colon;
            string = s;
            buffer = b;
          }) v 1
      key-kept s b fresh =
          let j = record i { begin = i.base + i.at; token = token.Key; awaits = awaits.Colon; string = s; buffer = b } in
          steps-here level chunk i v j v h (refl, refl, refl, refl) refl
          (λ t outer at r.
          let d = document i (filled outer v) in
          let e = document j (filled outer v) in
          let a = awaited.goes t outer at r in
          let fs = a.0 in
          let ms = a.1 in
          let o = in_key fs ms (length t) in
          record {
            opened = o;
            known =
                known-in (with_byte c) any_bytes d e t (c ∷ []) o tt (refl, refl, refl) (follows-byte c) a.2.known;
            held = λ unset. (
              c ∷ [],
              record { prefix = t; is = refl; begin = refl; place = a.2.position },
              refl,
              record { rest = []; is = ap (λ x. x ∷ []) awaited.quote; taken = fresh },
              refl,
              a.2.deep,
              a.2.tree,
            );
          })

      module _ (text : List ℕ) (e : ℕ) (within : IsTextWithin chunk i.at text e) (k : CowStr Global) (s : Vec ℕ Global)
          (named : text_view k ≡ text_of text)
        where
          -- One that lies whole in the chunk is read.
          abbrev ended : Reader
          ended = record i { awaits = awaits.Colon; key = k; buffer = s }

          key-there : (t : List ℕ) (outer : List OpenFrame) → IsAt level outer → HasTakenTo chunk i (filled outer v) t
              → HasTakenIn any_bytes (document ended (filled outer v)) (t ++ slice_range chunk i.at e)
          key-there t outer at r =
              let x = filled outer v in
              let d = document i x in
              let new = document ended x in
              let a = awaited.goes t outer at r in
              let u = t ++ slice_range chunk i.at e in
              let left : IsLeft new.value (at_value awaits.Colon (members_frame a.1 (text_of text) ∷ a.0)) =
              (refl, tt, (a.2.deep, a.2.tree), sym named) in
              let all = key-taken d new.value (with_byte c) any_bytes t (slice_range chunk i.at e) a.0 a.1 (length t)
              (text_of text) a.2.known (text-follows chunk i.at text e within) h.unset left
              (text-some chunk i.at text e within t) (text-key chunk i.at text e within t d)
              (λ p t j e ms fs. key-read p t j e ms fs (text_of text)) in
              subst (λ o. HasTakenIn any_bytes (record new { token = o }) u) (sym none) all

          pub key-whole : Steps level chunk i v ended v (e - i.at)
          key-whole =
              let end : i.at + (e - i.at) ≡ e = omega (arith, within.within.0) in
              steps-run level chunk i v ended v h (e - i.at) (omega (arith, within.within.0))
              (omega (arith, end, within.within.1)) (refl, refl, refl, refl) refl
              (λ t outer at r.
              subst (λ m. HasTakenIn any_bytes (document ended (filled outer v)) (t ++ slice_range chunk i.at m)) (sym end)
              (key-there t outer at r))
