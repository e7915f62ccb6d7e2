-- A number that a chunk cut goes on, ends or is refused, in an open container whatever that is in.
use Rattle.jiter_incremental.proofs.Settling.{come-all, ahead-level, moves-from, steps-here, steps-run}
use Rattle.jiter_incremental.proofs.Documents.Tokens.{number-ends, number-known, number-minus, number-open}
use Rattle.jiter_incremental.proofs.Documents.Tokens.{number-refused, number-stays, number-takes}
use Rattle.jiter_incremental.proofs.Documents.Names.{name-refused, minus-alone, name-taken}
use Rattle.jiter_incremental.proofs.Words.{◌≡◌, ◌⊎◌, ℕ, ◌+◌, ◌<◌, ◌≤◌, Bool, true, false, List, [], ◌∷◌, ◌++◌, length}
use Rattle.jiter_incremental.proofs.Words.{refl, sym, subst, ap, ◌∙◌, append-nil, arith, inl, inr, Result, Ok, Err}
use Rattle.jiter_incremental.proofs.Words.{IfOk, OnErr, slice_index, slice_range, string_bytes, Global, CowStr}
use Rattle.jiter_incremental.proofs.Words.{fault_kind, is_forgiven, HoldsNumber, StepsTo, number_by, failed, FaultKind}
use Rattle.jiter_incremental.proofs.Words.{PartialNumber, PartialWord, is_blank, text_view, Tree, HasTakenAll}
use Rattle.jiter_incremental.proofs.Words.{HasTakenIn, IsReadAs, any_bytes, in_scalar, own_number, with_byte, name_word}
use Rattle.jiter_incremental.proofs.Words.{HasTakenTo, IsAt, IsHere, ReadsAsBefore, Steps, after_level, ahead, ahead_as}
use Rattle.jiter_incremental.proofs.Words.{document, refused, IsPut, OpenFrame, filled, Reader}
use Rattle.jiter_scan.specs.PartialNumber.{Fits}
use Rattle.jiter_scan.specs.declared.errors.FaultKind.TheVariants as fault_of
use Rattle.jiter_scan.specs.declared.number.partial_number.NumberStep.{NumberStep}
use Rattle.jiter_scan.specs.declared.number.partial_number.NumberStep.TheVariants as went
use Rattle.jiter_incremental.specs.declared.names.WordValue.TheVariants as name
use Rattle.jiter_incremental.specs.declared.reader.Token.TheVariants as token
use Rattle.jiter_incremental.proofs.Arms.{byte-taken}
use Rattle.jiter_incremental.proofs.Between.{goes-blank, put-left, scalar-read}
use Rattle.jiter_incremental.proofs.Documents.{puts, refuses}
use Rattle.jiter_incremental.proofs.Placing.{depth-of, put-there}

-- Nothing is known of the byte after a number that is unfinished.
pub ahead-number : (r : Reader) (chunk : List ℕ) (n : ℕ) → r.token ≡ token.Number → ahead r chunk n ≡ any_bytes
ahead-number r chunk n is = ap (λ k. ahead_as k r.awaits chunk n) is

-- A number is unfinished.
module _ (level : ℕ) (chunk : List ℕ) (i : Reader) (v : Tree) (h : IsHere level chunk i v) where
  module _ (is : i.token ≡ token.Number) where
    come-here : (x : Tree) (t : List ℕ) → HasTakenTo chunk i x t → HasTakenAll (document i x) t
    come-here x t r = come-all chunk i x t (ahead-number i chunk i.at is) r

    -- It fits nowhere in the number,
    pub number-wrong : (kind : FaultKind) (w : NumberStep) (at : ℕ) → is_forgiven (fault_kind kind) ≡ false
        → StepsTo i.number.stage (slice_index chunk i.at) w
        → ((names : Bool) (u : List ℕ) → number_by names u (i.base + i.at) w ≡ failed (fault_kind kind) at)
        → Steps level chunk i v (refused i kind at) v 1
    number-wrong kind w at bad leads fails =
        let j = refused i kind at in
        steps-here level chunk i v j v h (refl, refl, refl, refl) refl
        (λ t outer place r.
        let d = document i (filled outer v) in
        let c = slice_index chunk i.at in
        let x = number-open d t (come-here (filled outer v) t r) h.unset is in
        refuses any_bytes any_bytes d t (c ∷ []) (in_scalar x.frames x.begin) kind at h.unset x.known (λ u comes. tt)
        (number-refused d t x c w (fault_kind kind) at bad leads
        (λ names u. ap (λ n. number_by names u n w) (sym r.position) ∙ fails names u)))

    -- begins a name after its minus,
    module _ (fits : Fits i.number.stage (slice_index chunk i.at) went.Named) where
      pub name-begins : (o : PartialWord) → o.word.now ≡ name_word name.MinusInfinity → o.seen ≡ 1
          → i.settings.allow_inf_nan ≡ true
          → Steps level chunk i v (record i { token = token.Word; name = name.MinusInfinity; word = o }) v 1
      name-begins o word one allowed =
          let j = record i { token = token.Word; name = name.MinusInfinity; word = o } in
          steps-here level chunk i v j v h (refl, refl, refl, refl) refl
          (λ t outer place r.
          let d = document i (filled outer v) in
          let e = document j (filled outer v) in
          let x = number-open d t (come-here (filled outer v) t r) h.unset is in
          let minus = number-minus d t x (slice_index chunk i.at) (minus-alone d.number x.bytes x.held.0 fits.0) in
          subst (λ b. HasTakenIn any_bytes e (t ++ b ∷ [])) (sym fits.1)
          (name-taken d t x.frames x.begin x.known minus e (refl, refl, refl) refl
          refl refl refl word one allowed))

      pub name-wrong : i.settings.allow_inf_nan ≡ false
          → Steps level chunk i v (refused i fault_of.InvalidNumber (i.base + i.at)) v 1
      name-wrong off =
          let at = i.base + i.at in
          let j = refused i fault_of.InvalidNumber at in
          steps-here level chunk i v j v h (refl, refl, refl, refl) refl
          (λ t outer place r.
          let d = document i (filled outer v) in
          let e = document j (filled outer v) in
          let x = number-open d t (come-here (filled outer v) t r) h.unset is in
          let minus = number-minus d t x (slice_index chunk i.at) (minus-alone d.number x.bytes x.held.0 fits.0) in
          subst (λ b. HasTakenIn any_bytes e (t ++ b ∷ [])) (sym fits.1)
          (refuses any_bytes any_bytes d t (73 ∷ []) (in_scalar x.frames x.begin) fault_of.InvalidNumber at h.unset
          x.known (λ u comes. tt) (name-refused d t x.frames x.begin x.known minus r.position off)))

    -- or follows it.
    abbrev ended : PartialNumber → CowStr Global → Reader
    ended n k = record i { number = n; token = token.Nothing; awaits = after_level level; key = k }

    module _ (leads : StepsTo i.number.stage (slice_index chunk i.at) went.Over) (n : PartialNumber) (k : CowStr Global)
        (w : Tree) (put : IsPut level v (text_view i.key) (own_number (string_bytes i.number.text)) w) where
      read-ended : (t : List ℕ) (outer : List OpenFrame) → IsAt level outer → HasTakenTo chunk i (filled outer v) t
          → HasTakenTo chunk (ended n k) (filled outer w) t
      read-ended t outer at r =
          let d = document i (filled outer v) in
          let c = slice_index chunk i.at in
          let tree = own_number (string_bytes i.number.text) in
          let x = number-open d t (come-here (filled outer v) t r) h.unset is in
          let fs = x.frames in
          let deep = depth-of i.depth (filled outer v) fs x.left.2 in
          let there = put-there level i.depth v w tree (text_view i.key) outer fs put at h.here x.left.2 x.left.3 in
          let e = document (ended n k) (filled outer w) in
          let left = put-left e.value tree fs (deep, there) (ap after_level (sym h.here)) in
          let reads = subst (λ u. IsReadAs d (with_byte c) u (length fs) x.begin tree) (sym (append-nil t))
          (number-ends d t x c leads) in
          let all = puts any_bytes (with_byte c) (record d { number = n }) e.value tree t [] fs x.begin
          (number-known any_bytes d n t (in_scalar fs x.begin) x.known) (λ u comes. tt) left
          (λ p u a b. scalar-read tree p u a b fs) reads in
          let one = subst (HasTakenIn (with_byte c) e) (append-nil t) all in
          let next : ahead (ended n k) chunk i.at ≡ with_byte c =
          ahead-level token.Nothing (after_level level) level chunk i.at refl refl h.inside in
          record {
            read = subst (λ m. HasTakenIn m e t) (sym next) one;
            position = r.position;
          }

      pub ended-here : IsHere level chunk (ended n k) w
      ended-here = record {
        here = h.here;
        low = h.low;
        inside = h.inside;
        room = h.room;
        unset = h.unset;
        read = (h.read.0, h.read.1, h.read.2, read-ended h.read.0 h.read.1 h.read.2 h.read.3);
      }

      -- What goes on after it,
      pub ended-then : (j : Reader) (x : Tree) (m : ℕ) → Steps level chunk (ended n k) w j x m
          → Steps level chunk i v j x m
      ended-then j x m s = record {
        goes = λ t outer at r. s.goes t outer at (read-ended t outer at r);
        moves = moves-from level chunk i (ended n k) j m (refl, refl, refl, refl) s.moves;
      }

      -- or whitespace.
      pub ended-blank : is_blank (slice_index chunk i.at) ≡ true → Steps level chunk i v (ended n k) w 1
      ended-blank blank =
          let j = ended n k in
          ended-then j w 1
          (byte-taken level chunk j w ended-here refl j.awaits j.depth j.key w (omega (arith, h.here))
          (omega (arith, h.here)) (omega (arith, h.here, h.low))
          (λ outer at s left.
          goes-blank (document j (filled outer w)).value s (slice_index chunk i.at) blank left))

pub invalid-only : (w : NumberStep) → (w ≡ went.Invalid) ⊎ (w ≡ went.TooLong) → ¬ (w ≡ went.TooLong) → w ≡ went.Invalid
invalid-only w (inl is) other = is
invalid-only w (inr is) other = absurd (other is)

-- A number goes on.
module _ (level : ℕ) (chunk : List ℕ) (i : Reader) (v : Tree) (h : IsHere level chunk i v) (is : i.token ≡ token.Number)
    (m : PartialNumber) where
  pub number-steps : {E : Type 0} (r : Result ℕ E) → IfOk r (λ n. (0 < n) × (i.at + n ≤ length chunk))
      → IfOk r (λ n. (u : List ℕ) → HoldsNumber i.number u → HoldsNumber m (u ++ slice_range chunk i.at (i.at + n)))
      → IfOk r (λ n. Steps level chunk i v (record i { number = m }) v n)
  number-steps (Ok n) part held =
      steps-run level chunk i v (record i { number = m }) v h n part.0 part.1 (refl, refl, refl, refl) refl
      (λ t outer at r.
      number-takes (document i (filled outer v)) m t (slice_range chunk i.at (i.at + n))
      (come-here level chunk i v h is (filled outer v) t r) h.unset is held)
  number-steps (Err e) part held = tt

  pub number-kept : {E : Type 0} (r : Result ℕ E)
      → OnErr r ((string_bytes m.text ≡ string_bytes i.number.text) × (m.stage ≡ i.number.stage))
      → OnErr r (ReadsAsBefore level chunk i v (record i { number = m }) v)
  number-kept (Ok n) refused = tt
  number-kept (Err e) refused = record {
    goes = λ t outer at r.
        (number-stays (document i (filled outer v)) m t (come-here level chunk i v h is (filled outer v) t r) h.unset is
        refused.0 refused.1).read;
    free = ahead-number i chunk i.at is;
    still = (refl, refl, refl, refl);
    depth = refl;
  }
