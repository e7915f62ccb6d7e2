-- A document that is over takes whatever comes.
use Rattle.jiter_incremental.proofs.Words.{Option, is_some, true, false≢true, inr, HasArrived, IsScalar, any_bytes}
use Rattle.jiter_incremental.proofs.Words.{length-append, ◌≡◌, ℕ, ◌+◌, ◌-◌, ◌<◌, false, List, ◌∷◌, [], ◌++◌, length}
use Rattle.jiter_incremental.proofs.Words.{take, refl, sym, subst, ap, ◌∙◌, arith, inl, slice_get, slice_index}
use Rattle.jiter_incremental.proofs.Words.{slice_range, None, Some, Result, Ok, Err, IfOk, OnErr, is_blank, none-some}
use Rattle.jiter_incremental.proofs.Words.{slice_get-get_or, slice_range-split, Fault, Tree, Document, Follows}
use Rattle.jiter_incremental.proofs.Words.{HasReadIn, HasTakenIn, IsOver, MayRefuseAt, Next, HasReadTo, IsAt, Ready}
use Rattle.jiter_incremental.proofs.Words.{Refuses, ReadsAsBefore, Steps, ahead, ahead_as, document, next_of, OpenFrame}
use Rattle.jiter_incremental.proofs.Words.{filled, Awaits, Reader, Token, IsHere}
use Rattle.jiter_incremental.proofs.Documents.{known-as, over-takes}
use Rattle.jiter_incremental.proofs.Settling.{calm_nothing, one-slice}
use Rattle.jiter_incremental.specs.declared.reader.Awaits.TheVariants as awaits
use Rattle.jiter_incremental.specs.declared.reader.Token.TheVariants as token
use Rattle.jiter_incremental.proofs.Documents.Blanks.{held-byte, refuse-after, refuse-here, refuse-inside}
use Rattle.jiter_incremental.proofs.Leading.{taken-to}

-- What is known to come next follows what was taken.
follows-next : (chunk : List ℕ) (i : ℕ) (m : Next) → i < length chunk
    → Follows (next_of (slice_get chunk i)) (slice_range chunk i (length chunk)) m
follows-next chunk i m within =
    subst (λ x. Follows (next_of x) (slice_range chunk i (length chunk)) m) (sym (slice_get-get_or chunk i 0 within))
    (λ u comes. (
      slice_range chunk (i + 1) (length chunk) ++ u,
      ap (λ s. s ++ u)
          (slice_range-split chunk i (i + 1) (omega arith) (length chunk) (omega (arith, within))
          ∙ ap (λ s. s ++ slice_range chunk (i + 1) (length chunk)) (one-slice chunk i within)),
    ))

follows-ahead : (k : Token) (a : Awaits) (chunk : List ℕ) (i : ℕ) (m : Next) → i < length chunk
    → Follows (ahead_as k a chunk i) (slice_range chunk i (length chunk)) m
follows-ahead token.Nothing awaits.Comma chunk i m within = follows-next chunk i m within
follows-ahead token.Nothing awaits.Nothing chunk i m within = follows-next chunk i m within
follows-ahead k a chunk i m within = λ u comes. tt

-- It takes all of the chunk.
pub over-step : (level : ℕ) (chunk : List ℕ) (i : Reader) (v : Tree) → Ready level chunk i v → i.depth ≡ level
    → i.at < length chunk → ((x : Tree) → IsOver (document i x)) → Steps level chunk i v i v (length chunk - i.at)
over-step level chunk i v r here inside over =
    let end : length chunk ≡ i.at + (length chunk - i.at) = omega (arith, inside) in
    record {
      goes = λ t outer at h.
          let d = document i (filled outer v) in
          let m = ahead i chunk (length chunk) in
          subst (λ e. HasTakenIn (ahead i chunk e) d (t ++ slice_range chunk i.at e)) end
          (over-takes (ahead i chunk i.at) m d t (slice_range chunk i.at (length chunk))
          (follows-ahead i.token i.awaits chunk i.at m inside) (over (filled outer v)) h.read);
      moves =
          record {
            within = omega (arith, end);
            some = inl (omega (arith, inside));
            still = (refl, refl, refl, refl);
            depth = (omega (arith, here), omega (arith, here));
            low = r.low;
            calm = λ other. absurd (other here);
          };
    }

-- A step begins in the innermost container, where what is unfinished is apart.
pub here-of : (level : ℕ) (chunk : List ℕ) (i : Reader) (v : Tree) → Ready level chunk i v → i.depth ≡ level
    → i.shown ≡ false → i.at < length chunk → i.fault ≡ None → IsHere level chunk i v
here-of level chunk i v r here hidden inside unset =
    let u = r.read.0 ++ take i.at chunk in
    record {
      here = here;
      low = omega (arith, here, r.low);
      inside = inside;
      room = r.room;
      unset = unset;
      read = (u, r.read.1, r.read.2, taken-to chunk i (filled r.read.1 v) u hidden r.read.3);
    }

-- Where an allocation fails the byte is not whitespace, or one came before.
pub refuse-read : (n : Next) (d : Document) (t : List ℕ) (c : ℕ) → HasReadIn n d t → d.fault ≡ None
    → ¬ (d.token ≡ token.Nothing) → MayRefuseAt (t ++ c ∷ []) (length t)
refuse-read n d t c h unset begun =
    let s = h.held unset in
    let same : d.token ≡ s.apart.token = ap (λ (e : Document). e.token) s.same in
    refuse-after t c (held-byte s.apart t h.opened s.held (λ none. begun (same ∙ none)))

module _ (level : ℕ) (chunk : List ℕ) (i : Reader) (v : Tree) (j : Reader) (w : Tree) where
  refuses-by : i.at < length chunk → ReadsAsBefore level chunk i v j w
      → ((t : List ℕ) (outer : List OpenFrame) → IsAt level outer → HasReadTo chunk i (filled outer v) (t ++ take i.at chunk)
      → MayRefuseAt ((t ++ take i.at chunk) ++ slice_index chunk i.at ∷ []) (length (t ++ take i.at chunk)))
      → Refuses level chunk i v j
  refuses-by inside stays may = record {
    goes = λ t outer at h.
        let place : j.base + j.at ≡ length (t ++ take i.at chunk) =
        omega (arith, h.position, stays.still.1, stays.still.2) in
        refuse-inside t chunk i.at (j.base + j.at) inside place (may t outer at h);
    free = ap (ahead j chunk) stays.still.2 ∙ stays.free;
  }

  pub refuses-blank : {E : Type 0} (r : Result ℕ E) → i.at < length chunk → OnErr r (ReadsAsBefore level chunk i v j w)
      → OnErr r (is_blank (slice_index chunk i.at) ≡ false) → OnErr r (Refuses level chunk i v j)
  refuses-blank (Ok n) inside stays other = tt
  refuses-blank (Err e) inside stays other =
      refuses-by inside stays (λ t outer at h. refuse-here (t ++ take i.at chunk) (slice_index chunk i.at) other)

  pub refuses-token : {E : Type 0} (r : Result ℕ E) → i.at < length chunk → i.fault ≡ None → ¬ (i.token ≡ token.Nothing)
      → OnErr r (ReadsAsBefore level chunk i v j w) → OnErr r (Refuses level chunk i v j)
  refuses-token (Ok n) inside unset begun stays = tt
  refuses-token (Err e) inside unset begun stays =
      refuses-by inside stays
      (λ t outer at h.
      refuse-read (ahead i chunk i.at) (document i (filled outer v)) (t ++ take i.at chunk) (slice_index chunk i.at) h.read
      unset begun)

  -- Where a container was opened or ended the document is read on.
  pub calm-so : {E : Type 0} (r : Result ℕ E) → i.depth ≡ level → IfOk r (Steps level chunk i v j w)
      → OnErr r (ReadsAsBefore level chunk i v j w) → ¬ (j.depth ≡ level) → j.fault ≡ None
  calm-so (Ok n) here steps stays other = steps.moves.calm other
  calm-so (Err e) here steps stays other = absurd (other (stays.depth ∙ here))

-- An allocation for it fails before a chunk.
pub refuses-scalar : (level : ℕ) (chunk : List ℕ) (i : Reader) (v : Tree) → i.at < length chunk → i.fault ≡ None
    → IsScalar i.token → Refuses level chunk i v i
refuses-scalar level chunk i v inside unset is = record {
  goes = λ t outer at h.
      refuse-inside t chunk i.at (i.base + i.at) inside h.position
      (refuse-read (ahead i chunk i.at) (document i (filled outer v)) (t ++ take i.at chunk) (slice_index chunk i.at) h.read
      unset (λ none. calm_nothing i.token none is));
  free = by is;
} where
  by : IsScalar i.token → ahead i chunk i.at ≡ any_bytes
  by (inl k) = ap (λ x. ahead_as x i.awaits chunk i.at) k
  by (inr k) = ap (λ x. ahead_as x i.awaits chunk i.at) k

some-found : (x : Option Fault) → is_some x ≡ true → (f : Fault) × (x ≡ Some f)
some-found (Some f) is = (f, refl)
some-found None is = absurd (false≢true is)

-- A chunk after an error is taken.
pub fault-arrived : (chunk : List ℕ) (i : Reader) (v : Tree) (t : List ℕ) → is_some i.fault ≡ true → i.at ≡ 0
    → HasArrived (document i v) t → HasArrived (document (record i { at = length chunk }) v) (t ++ chunk)
fault-arrived chunk i v t some start h =
    let found = some-found i.fault some in
    let f = found.0 in
    let is : i.fault ≡ Some f = found.1 in
    let d = document i v in
    let e = document (record i { at = length chunk }) v in
    let never : i.fault ≡ None → ⊥ = λ unset. none-some f (sym unset ∙ is) in
    let taken : HasTakenIn any_bytes d t =
    record { opened = h.read.opened; known = h.read.known; held = λ unset. absurd (never unset) } in
    let more = over-takes any_bytes any_bytes d t chunk (λ u c. tt) (inl (f, is)) taken in
    record {
      read =
          record {
            opened = more.opened;
            known = known-as any_bytes d e (t ++ chunk) more.opened (refl, refl, refl) more.known;
            held = λ unset. absurd (never unset);
          };
      position = omega (arith, h.position, start, length-append t chunk);
      full = λ unset. absurd (never unset);
    }
