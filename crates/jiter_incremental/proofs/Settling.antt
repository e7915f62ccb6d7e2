-- A document whose unfinished scalar is in the value so far, or apart from it.
use Rattle.jiter_incremental.proofs.Words.{HasTakenAll, IsComplete, ◌≡◌, ℕ, zero, suc, ◌+◌, ◌-◌, ◌<◌, Bool, false, List}
use Rattle.jiter_incremental.proofs.Words.{[], ◌∷◌, ◌++◌, length, take, drop, get_or, refl, sym, subst, ap, ◌∙◌, ◌≤◌}
use Rattle.jiter_incremental.proofs.Words.{arith, inl, true, false≢true, nesting_limit, slice_index, slice_range, None}
use Rattle.jiter_incremental.proofs.Words.{slice_get-get_or, slice-one, Tree, null, Document, HasReadIn, HasTakenIn}
use Rattle.jiter_incremental.proofs.Words.{HoldsOpened, HoldsScalar, HasArrived, Parted, Settled, IsMoved, Next, Opened}
use Rattle.jiter_incremental.proofs.Words.{any_bytes, between_tokens, in_key, in_scalar, is_shown, shown_as, with_byte}
use Rattle.jiter_incremental.proofs.Words.{with_parts, HasTakenTo, IsAt, IsStill, MovesBy, Steps, after_level, ahead}
use Rattle.jiter_incremental.proofs.Words.{ahead_as, document, next_of, OpenFrame, filled, Awaits, Reader, Token}
use Rattle.jiter_incremental.proofs.Words.{HasEnded, IsHere, IsScalar, JsonValue, KeepsRoom, inr}
use Rattle.jiter_incremental.proofs.Documents.{known-any}
use Rattle.jiter_incremental.specs.declared.reader.Token.TheVariants as token

pub taken-any : (m : Next) (d : Document) (t : List ℕ) → HasTakenIn any_bytes d t → HasTakenIn m d t
taken-any m d t h = record { opened = h.opened; known = known-any m d t h.opened h.known; held = h.held }

pub read-any : (m : Next) (d : Document) (t : List ℕ) → HasReadIn any_bytes d t → HasReadIn m d t
read-any m d t h = record { opened = h.opened; known = known-any m d t h.opened h.known; held = h.held }

-- Where no scalar is unfinished that may be a value, none is shown.
pub shown-nothing : (d : Document) → d.token ≡ token.Nothing → is_shown d ≡ false
shown-nothing d is = ap (shown_as d) is

pub shown-key : (d : Document) → d.token ≡ token.Key → is_shown d ≡ false
shown-key d is = ap (shown_as d) is

pub calm-hidden : (d : Document) → ¬ IsScalar d.token → is_shown d ≡ false
calm-hidden d calm = by d.token refl where
  by : (k : Token) → d.token ≡ k → shown_as d k ≡ false
  by token.Number is = absurd (calm (inl is))
  by token.Text is = absurd (calm (inr is))
  by token.Nothing is = refl
  by token.Word is = refl
  by token.Key is = refl

pub ended-complete : (r : Reader) → HasEnded r → IsComplete r
ended-complete r e unset hidden = calm-hidden (document r null) e.1

-- and no room is wanted.
pub room_other : (level : ℕ) (r : Reader) (slot : JsonValue) → ¬ IsScalar r.token → KeepsRoom level r slot
room_other level r slot calm is = absurd (calm is)

pub calm_nothing : (k : Token) → k ≡ token.Nothing → ¬ IsScalar k
calm_nothing k a (inl b) = absurd (let no : token.Nothing ≡ token.Number = sym a ∙ b in cc)
calm_nothing k a (inr b) = absurd (let no : token.Nothing ≡ token.Text = sym a ∙ b in cc)

pub calm_other : (k : Token) → ¬ (k ≡ token.Number) → ¬ (k ≡ token.Text) → ¬ IsScalar k
calm_other k a b (inl is) = a is
calm_other k a b (inr is) = b is

-- One that stays apart is read,
pub reads-apart : (n : Next) (d : Document) (t : List ℕ) → HasTakenIn n d t → d.shown ≡ false → HasReadIn n d t
reads-apart n d t h hidden = record {
  opened = h.opened;
  known = h.known;
  held = λ unset. record {
    apart = d;
    held = h.held unset;
    sure = λ on. absurd (false≢true (sym hidden ∙ on));
    same = refl;
    moved = subst (λ b. IsMoved b d d) (sym hidden) (refl, refl, refl);
  };
}

-- and what stays apart is held as before.
holding-parts : (d : Document) (b : Bool) (t : List ℕ) (o : Opened) → HoldsOpened d t o → HoldsOpened (record d { shown = b }) t o
holding-parts d b t (between_tokens s) h = h
holding-parts d b t (in_scalar fs i) h = (
  h.0,
  record { prefix = h.1.prefix; is = h.1.is; begin = h.1.begin; place = h.1.place },
  by d.token h.2,
  h.3,
  h.4,
) where
  by : (k : Token) → HoldsScalar d k h.0 → HoldsScalar (record d { shown = b }) k h.0
  by token.Word s = s
  by token.Number s = s
  by token.Text s = record { rest = s.rest; is = s.is; taken = s.taken }
  by token.Nothing s = s
  by token.Key s = s
holding-parts d b t (in_key fs ms i) h = (
  h.0,
  record { prefix = h.1.prefix; is = h.1.is; begin = h.1.begin; place = h.1.place },
  h.2,
  record { rest = h.3.rest; is = h.3.is; taken = h.3.taken },
  h.4,
  h.5,
  h.6,
)

same-parts : (d e : Document) → d ≡ with_parts e d.shown d.number d.string d.value → d.number ≡ e.number
    → d.string ≡ e.string → d.value ≡ e.value → d ≡ record e { shown = d.shown }
same-parts d e same number string value =
    same ∙ ap (λ n. with_parts e d.shown n d.string d.value) number
    ∙ ap (λ s. with_parts e d.shown e.number s d.value) string
    ∙ ap (λ v. with_parts e d.shown e.number e.string v) value

pub apart-read : (n : Next) (d : Document) (t : List ℕ) → HasReadIn n d t → d.shown ≡ false → HasTakenIn n d t
apart-read n d t h hidden = record {
  opened = h.opened;
  known = h.known;
  held = λ unset.
      let s = h.held unset in
      let m = subst (λ b. IsMoved b s.apart d) hidden s.moved in
      let is = same-parts d s.apart s.same m.0 m.1 m.2 in
      subst (λ e. HoldsOpened e t h.opened) (sym is) (holding-parts s.apart d.shown t h.opened s.held);
}

-- Where a scalar that is a value is shown, what is held is settled.
pub settle : (d : Document) (t : List ℕ) (o : Opened) → Parted d t o → (d.shown ≡ false → is_shown d ≡ false) → Settled d t o
settle d t o p full = record { apart = p.apart; held = p.held; shows = by d.shown refl; same = p.same; moved = p.moved } where
  by : (b : Bool) → d.shown ≡ b → d.shown ≡ is_shown p.apart
  by true is = is ∙ sym (p.sure is)
  by false is =
      let m = subst (λ b. IsMoved b p.apart d) is p.moved in
      let same = same-parts d p.apart p.same m.0 m.1 m.2 in
      is ∙ sym (sym (ap (λ (x : Document). is_shown x) same) ∙ full is)

pub settled-so : (d : Document) (t : List ℕ) (h : HasArrived d t) → d.fault ≡ None → Settled d t h.read.opened
settled-so d t h unset = settle d t h.read.opened (h.read.held unset) (h.full unset)

-- One byte is taken.
pub one-slice : (chunk : List ℕ) (at : ℕ) → at < length chunk → slice_range chunk at (at + 1) ≡ slice_index chunk at ∷ []
one-slice chunk at within = slice-one chunk at (get_or chunk at 0) (slice_get-get_or chunk at 0 within)

-- The same container is open after them.
module _ (level : ℕ) (chunk : List ℕ) (i : Reader) (here : i.depth ≡ level) (low : level ≤ nesting_limit + 1) where
  pub moves-here : (j : Reader) (n : ℕ) → 0 < n → i.at + n ≤ length chunk → IsStill i j → j.depth ≡ i.depth
      → MovesBy level chunk i j n
  moves-here j n some within still depth = record {
    within = within;
    some = inl some;
    still = still;
    depth = (omega (arith, here, depth), omega (arith, here, depth));
    low = omega (arith, here, low, depth);
    calm = λ other. absurd (other (depth ∙ here));
  }

-- It moves as one that is where it is.
pub moves-from : (level : ℕ) (chunk : List ℕ) (i j k : Reader) (n : ℕ) → IsStill i j → MovesBy level chunk j k n
    → MovesBy level chunk i k n
moves-from level chunk i j k n still m = record {
  within = subst (λ a. a + n ≤ length chunk) still.2 m.within;
  some = m.some;
  still = (m.still.0 ∙ still.0, m.still.1 ∙ still.1, m.still.2 ∙ still.2, m.still.3 ∙ still.3);
  depth = m.depth;
  low = m.low;
  calm = m.calm;
}

module _ (level : ℕ) (chunk : List ℕ) (i : Reader) (v : Tree) (j : Reader) (w : Tree) where
  -- Bytes are taken, and the same container is open after them.
  pub steps-run : IsHere level chunk i v → (n : ℕ) → 0 < n → i.at + n ≤ length chunk → IsStill i j → j.depth ≡ i.depth
      → ((t : List ℕ) (outer : List OpenFrame) → IsAt level outer → HasTakenTo chunk i (filled outer v) t
      → HasTakenIn any_bytes (document j (filled outer w)) (t ++ slice_range chunk i.at (i.at + n)))
      → Steps level chunk i v j w n
  steps-run h n some within still depth goes = record {
    goes = λ t outer at r.
        taken-any (ahead j chunk (i.at + n)) (document j (filled outer w)) (t ++ slice_range chunk i.at (i.at + n))
        (goes t outer at r);
    moves = moves-here level chunk i h.here h.low j n some within still depth;
  }

  -- The next byte is taken,
  pub steps-one : i.at < length chunk → MovesBy level chunk i j 1
      → ((t : List ℕ) (outer : List OpenFrame) → IsAt level outer → HasTakenTo chunk i (filled outer v) t
      → HasTakenIn any_bytes (document j (filled outer w)) (t ++ slice_index chunk i.at ∷ []))
      → Steps level chunk i v j w 1
  steps-one inside moves goes = record {
    goes = λ t outer at h.
        let d = document j (filled outer w) in
        subst (λ s. HasTakenIn (ahead j chunk (i.at + 1)) d (t ++ s)) (sym (one-slice chunk i.at inside))
        (taken-any (ahead j chunk (i.at + 1)) d (t ++ slice_index chunk i.at ∷ []) (goes t outer at h));
    moves = moves;
  }

  -- and the same container is open after it.
  pub steps-here : IsHere level chunk i v → IsStill i j → j.depth ≡ i.depth
      → ((t : List ℕ) (outer : List OpenFrame) → IsAt level outer → HasTakenTo chunk i (filled outer v) t
      → HasTakenIn any_bytes (document j (filled outer w)) (t ++ slice_index chunk i.at ∷ []))
      → Steps level chunk i v j w 1
  steps-here h still depth goes =
      steps-one h.inside (moves-here level chunk i h.here h.low j 1 (omega arith) (omega (arith, h.inside)) still depth) goes

-- What was taken, where nothing is known of what comes
pub come-all : (chunk : List ℕ) (i : Reader) (x : Tree) (t : List ℕ) → ahead i chunk i.at ≡ any_bytes → HasTakenTo chunk i x t
    → HasTakenAll (document i x) t
come-all chunk i x t free r =
    record { read = subst (λ n. HasTakenIn n (document i x) t) free r.read; position = r.position }

-- After a value the next byte is known to come.
pub ahead-level : (k : Token) (a : Awaits) (n : ℕ) (chunk : List ℕ) (i : ℕ) → k ≡ token.Nothing → a ≡ after_level n
    → i < length chunk → ahead_as k a chunk i ≡ with_byte (slice_index chunk i)
ahead-level k a zero chunk i none is within = rw (none, is) (ap next_of (slice_get-get_or chunk i 0 within))
ahead-level k a (suc n) chunk i none is within = rw (none, is) (ap next_of (slice_get-get_or chunk i 0 within))

pub none-slice : (chunk : List ℕ) (at : ℕ) → slice_range chunk at (at + 0) ≡ []
none-slice chunk at = let nothing : at + 0 - at ≡ 0 = omega arith in ap (λ n. take n (drop at chunk)) nothing
