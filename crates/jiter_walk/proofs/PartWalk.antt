-- A walk over the parts of a container, items and members alike. What the parts mean leads to what the container means;
-- and a walk that ends has passed a value.
use Rattle.std.proofs.Common.{◌≡◌, ◌∙◌, ◌⊎◌, inl, inr, ℕ, zero, suc, ◌+◌, ◌-◌, ◌<◌, ◌≤◌, Bool, false, List, [], ◌∷◌, ◌++◌}
use Rattle.std.proofs.Common.{length, refl, sym, ap, subst, arith}
use Rattle.std.specs.Prelude.{Option, Some, None, Ok, Err}
use Rattle.jiter_steps.specs.Answer.{only_ends}
use Rattle.jiter_steps.specs.Blank.{past_blanks}
use Rattle.jiter_steps.specs.Read.{Container, Reading, container_at, done, follow, inside_at, parts_at, value_at}
use Rattle.jiter_steps.specs.Step.{Step, closed, closer_of, container_first, container_step, more, step, stuck}
use Rattle.jiter_steps.specs.declared.parse.ContainerKind.{ContainerKind}
use Rattle.jiter_steps.proofs.Grammar.RowSteps.{PartAt}
use Rattle.jiter_steps.proofs.Reading.Bounds.{Ahead, container_first-ahead, container_step-ahead}
use Rattle.jiter_steps.proofs.Reading.Parts.{Parts}
use Rattle.jiter_steps.proofs.Reading.Values.{Goes, inside_at-suc, parts-part}
use Rattle.jiter.specs.Caller.{Cause, MovesOn, Node, ReaderState, Reply, end, gave, refused, value_place, with_position}
use Rattle.jiter.specs.Reader.{part_reply}
use Rattle.jiter.proofs.Walking.{ComesNext, GivenAt, MeetsPart, PartsLeft, TellsOf, first-tells, gave-is, gave-refused}
use Rattle.jiter.proofs.Walking.{moves-on, next-tells, part-given, part-not_refused}
use Rattle.jiter_walk.specs.declared.walk_error.WalkError.{WalkError}
use Rattle.jiter_walk.specs.Walk.{Comes, IsOutOfMemory, Outcome, SkipsTo, Walks, and_then, fails, gives, index_of}
use Rattle.jiter_walk.specs.Walk.{of_reader, reason}
use Rattle.jiter_walk.proofs.Coming.{next-comes}
use Rattle.jiter_walk.proofs.SkipsMore.{skips-inside, skips-more}
use Rattle.jiter_walk.proofs.Unblank.{Unblank, first-unblank, step-unblank}

-- How a walk goes through a container of this kind: what it is told where a part begins, and what is done with a part.
pub record Form (s0 : ReaderState) (P K Q C S : Type 0) : Type 1 where
  pub kind : ContainerKind
  pub IsPart : Bool → List ℕ → ℕ → P → ℕ → Type 0
  pub key : P → K
  pub value : P → Node
  pub told : ℕ → Reply (Option K)
  pub meets : (i : ℕ) (p : P) (e : ℕ) → IsPart s0.names s0.text i p e → MeetsPart s0 told (key p) (value p) i e
  pub some : (j p : ℕ) → told j ≡ gave None p → ⊥
  pub after : List ℕ → K → Node → S → Outcome C S
  -- the same part, as a skip reads it
  pub piece : (ℕ → Reading (Unit {0})) → ℕ → Reading Q
  pub is : Q
  pub goes : (levels : ℕ) → Goes (record {
    first = container_first kind;
    next = container_step kind s0.text;
    part = piece (inside_at (only_ends s0.names) s0.text levels);
    refuses = λ (parts : List Q) j. None;
    build = λ e parts. tt {0};
  }) s0.text
  pub passed : (inner : ℕ → Reading (Unit {0})) (j p e : ℕ) (k : K) → past_blanks s0.text j ≡ j → told j ≡ gave (Some k) p
      → past_blanks s0.text p < length s0.text → inner (past_blanks s0.text p) ≡ done tt e → piece inner j ≡ done is e

module _ {s0 : ReaderState} {P K Q C S : Type 0} (f : Form s0 P K Q C S) where
  abbrev t : List ℕ
  t = s0.text

  abbrev at : ℕ → ReaderState
  at p = with_position s0 p

  -- after these parts
  abbrev pub parts_walked : S → List P → Outcome C S
  parts_walked s [] = gives s
  parts_walked s (p ∷ ps) = and_then (f.after t (f.key p) (f.value p) s) (λ r. parts_walked r ps)

  abbrev Tells : ℕ → List P → ℕ → Reply (Option K) → Type 0
  Tells p = TellsOf f.kind f.IsPart f.key f.value (at p)

  abbrev Given : ℕ → List P → ℕ → Option K → Type 0
  Given p = GivenAt f.kind f.IsPart f.key f.value (at p)

  abbrev StillLeft : ℕ → List P → ℕ → Type 0
  StillLeft p = PartsLeft f.kind f.IsPart (at p)

  meets-at : (p i : ℕ) (q : P) (e : ℕ) → f.IsPart s0.names t i q e → MeetsPart (at p) f.told (f.key q) (f.value q) i e
  meets-at p i q e h =
      let m = f.meets i q e h in record { after = m.after; is = m.is; comes = m.comes; ends = m.ends }

  -- A container of this kind, and its parts.
  pub record Splits (whole : Outcome C S) (n : Node) (opened : Reply (Option K)) (start : S) : Type 0 where
    pub first : ℕ
    pub last : ℕ
    pub all : List P
    pub parts : Parts t (closer_of f.kind) (PartAt f.kind t) (f.IsPart s0.names t) all (first + 1) last
    pub opens : opened ≡ part_reply f.told (step t (container_first f.kind) (first + 1))
    pub means : whole ≡ parts_walked start all
    pub ends : end n ≡ last

  -- A value of another type.
  pub record IsOther (whole : Outcome C S) (opened : Reply (Option K)) : Type 0 where
    pub cause : Cause
    pub index : ℕ
    pub stop : ℕ
    pub refuses : opened ≡ refused cause index stop
    pub fails : whole ≡ fails (of_reader cause) index

  -- ---- what a skip makes of the parts
  abbrev pub container : ℕ → Container Q (Unit {0})
  container levels = record {
    first = container_first f.kind;
    next = container_step f.kind t;
    part = f.piece (inside_at (only_ends s0.names) t levels);
    refuses = λ parts j. None;
    build = λ e parts. tt;
  }

  abbrev pub skipped : ℕ → Reading (Unit {0})
  skipped levels = container_at (only_ends s0.names) (container levels) t (value_place s0)

  abbrev pub rest : ℕ → List Q → ℕ → Reading (Unit {0})
  rest levels parts j = parts_at (only_ends s0.names) (container levels) t (length t) parts j

  -- A part was told of where the reader is now, and the parts before it were passed.
  pub record PassesPart (k : K) (p : ℕ) : Type 0 where
    pub levels : ℕ
    pub parts : List Q
    pub begin : ℕ
    pub inside : begin < length t
    pub unblank : past_blanks t begin ≡ begin
    pub told : f.told begin ≡ gave (Some k) p
    pub leads : (n : ℕ) → levels ≤ n → skipped n ≡ rest n parts begin

  -- or the container has ended before p
  abbrev pub PassesTo : Option K → ℕ → Type 0
  PassesTo (Some k) p = PassesPart k p
  PassesTo None p = (levels : ℕ) × ((n : ℕ) → levels ≤ n → skipped n ≡ done tt p)

  follow-passes : (levels m : ℕ) (parts : List Q) (s : Step) (o : Option K) (p : ℕ) → Ahead t m s → Unblank t s
      → part_reply f.told s ≡ gave o p
      → ((n : ℕ) → levels ≤ n → skipped n ≡ follow (only_ends s0.names) (rest n parts) (λ e. tt) s) → PassesTo o p
  follow-passes levels m parts (more j) (Some k) p ahead unblank told leads = record {
    levels = levels;
    parts = parts;
    begin = j;
    inside = ahead.1;
    unblank = unblank;
    told = told;
    leads = leads;
  }
  follow-passes levels m parts (more j) None p ahead unblank told leads = absurd (f.some j p told)
  follow-passes levels m parts (closed e) (Some k) p ahead unblank told leads = absurd (cc)
  follow-passes levels m parts (closed e) None p ahead unblank told leads =
      (levels, λ n le. leads n le ∙ ap (λ x. done tt x) (gave-is None None e p told).1)
  follow-passes levels m parts (stuck c j) o p ahead unblank told leads = absurd (gave-refused (sym told))

  inside-more : (n m i e : ℕ) → n < m → value_at (only_ends s0.names) t n i ≡ done tt e
      → inside_at (only_ends s0.names) t m i ≡ done tt e
  inside-more n zero i e lt is = absurd (omega arith)
  inside-more n (suc m) i e lt is =
      inside_at-suc (only_ends s0.names) t m i ∙ skips-more s0.names t n m i e (omega arith) is

  next-passes : (k : K) (p e : ℕ) (o : Option K) (q : ℕ) → PassesPart k p → SkipsTo s0.names t (past_blanks t p) e
      → e ≤ length t → part_reply f.told (step t (container_step f.kind t) e) ≡ gave o q → PassesTo o q
  next-passes k p e o q h value within told =
      follow-passes (h.levels + suc value.0) e (h.parts ++ f.is ∷ []) (step t (container_step f.kind t) e) o q
      (container_step-ahead t f.kind e within) (step-unblank f.kind t e) told
      (λ n le. h.leads n (omega (arith, le))
      ∙ parts-part (only_ends s0.names) t (container n) (f.goes n) h.begin e h.parts f.is
      (step t (container_step f.kind t) e) h.inside refl
      (f.passed (inside_at (only_ends s0.names) t n) h.begin p e k h.unblank h.told
      (skips-inside s0.names t value.0 (past_blanks t p) e value.1)
      (inside-more value.0 n (past_blanks t p) e (omega (arith, le)) value.1)) refl)

  -- ---- the walk
  module _ (start : S) (opened : Reply (Option K)) (whole : Node → Outcome C S)
      (cases : (n : Node) → Comes s0 n → Splits (whole n) n opened start ⊎ IsOther (whole n) opened) where
    -- these parts are left of the container, and lead from what is kept to what the container means
    pub record Left (p : ℕ) (o : Option K) (a : S) (n : Node) : Type 0 where
      pub last : ℕ
      pub rest : List P
      pub here : Given p rest last o
      pub leads : parts_walked a rest ≡ whole n
      pub ends : end n ≡ last

    -- The walk's invariant.
    pub record WalkAt (s : ReaderState) (o : Option K) (a : S) : Type 0 where
      pub moves : MovesOn s0 s
      pub left : (n : Node) → Comes s0 n → Left s.position o a n
      pub passes : s0.partial_strings ≡ false → PassesTo o s.position

    first-left : (p : ℕ) (o : Option K) → opened ≡ gave o p → (n : Node) → Comes s0 n → Left p o start n
    first-left p o is n comes = by (cases n comes) where
      by : Splits (whole n) n opened start ⊎ IsOther (whole n) opened → Left p o start n
      by (inl h) = record {
        last = h.last;
        rest = h.all;
        here =
            part-given f.kind f.IsPart f.key f.value s0 (at p) h.all h.last _ o
            (first-tells f.kind f.IsPart f.key f.value s0 f.told f.meets h.all (h.first + 1) h.last h.parts)
            (sym h.opens ∙ is) refl;
        leads = sym h.means;
        ends = h.ends;
      }
      by (inr h) = absurd (gave-refused (sym is ∙ h.refuses))

    pub walk-begins : (s : ReaderState) (o : Option K) → MovesOn s0 s → opened ≡ gave o s.position
        → value_place s0 + 1 ≤ length t
        → opened ≡ part_reply f.told (step t (container_first f.kind) (value_place s0 + 1)) → WalkAt s o start
    walk-begins s o moves is within opens = record {
      moves = moves;
      left = first-left s.position o is;
      passes = λ strict.
          follow-passes 0 (value_place s0 + 1) [] (step t (container_first f.kind) (value_place s0 + 1)) o s.position
          (container_first-ahead t f.kind (value_place s0 + 1) within) (first-unblank f.kind t (value_place s0 + 1))
          (sym opens ∙ is) (λ n le. refl);
    }

    -- The container can't be opened: the value has another type.
    pub opening-fails : (c : Cause) (x stop : ℕ) → opened ≡ refused c x stop → (n : Node) → Comes s0 n
        → whole n ≡ fails (of_reader c) x
    opening-fails c x stop is n comes = by (cases n comes) where
      same : (d : Cause) (y z : ℕ) → ◌≡◌ {A = Reply (Option K)} (refused d y z) (refused c x stop)
          → ◌≡◌ {A = Outcome C S} (fails (of_reader d) y) (fails (of_reader c) x)
      same d y z both =
          let cause : d ≡ c = cc in
          let index : y ≡ x = cc in
          ap (λ e. fails (of_reader e) y) cause ∙ ap (fails (of_reader c)) index

      by : Splits (whole n) n opened start ⊎ IsOther (whole n) opened → whole n ≡ fails (of_reader c) x
      by (inl h) =
          absurd (part-not_refused f.kind f.IsPart f.key f.value s0 h.all h.last _ c x stop
          (first-tells f.kind f.IsPart f.key f.value s0 f.told f.meets h.all (h.first + 1) h.last h.parts)
          (sym h.opens ∙ is))
      by (inr h) = h.fails ∙ same h.cause h.index h.stop (sym h.refuses ∙ is)

    -- The part that comes next, and those after it.
    pub record PartHere (p : ℕ) (k : K) (a : S) (n : Node) : Type 0 where
      pub last : ℕ
      pub value : Node
      pub rest : List P
      pub comes : ComesNext (at p) value
      pub left : StillLeft (end value) rest last
      pub leads : and_then (f.after t k value a) (λ r. parts_walked r rest) ≡ whole n
      pub ends : end n ≡ last

    part-here : (p : ℕ) (k : K) (a : S) (n : Node) → Left p (Some k) a n → PartHere p k a n
    part-here p k a n h = by h.rest h.here h.leads where
      by : (rest : List P) → Given p rest h.last (Some k) → parts_walked a rest ≡ whole n → PartHere p k a n
      by [] here leads = absurd here
      by (q ∷ qs) (same, comes, left) leads = record {
        last = h.last;
        value = f.value q;
        rest = qs;
        comes = comes;
        left = left;
        leads = ap (λ x. and_then (f.after t x (f.value q) a) (λ r. parts_walked r qs)) same ∙ leads;
        ends = h.ends;
      }

    module _ (s : ReaderState) (k : K) (a : S) (h : WalkAt s (Some k) a) {X : Type 0} (view : X → S) (s1 : ReaderState) where
      here : (n : Node) → Comes s0 n → PartHere s.position k a n
      here n comes = part-here s.position k a n (h.left n comes)

      -- the walk over a part, in the words of the container's reader
      module _ (x : _) (w : Walks view (λ t n. f.after t k n a) x s s1) where
        pub moved : MovesOn s0 s1
        moved = moves-on s0 s s1 h.moves w.moves

        placed : Walks view (λ t n. f.after t k n a) x (at s.position) s1
        placed = subst (λ (u : ReaderState). Walks view (λ t n. f.after t k n a) x u s1) h.moves.same w

      -- The walk over a part fails: so does that over the container.
      pub part-fails : (e : WalkError C) → Walks view (λ t n. f.after t k n a) (Err e) s s1 → (n : Node) → Comes s0 n
          → (IsOutOfMemory e → ⊥) → whole n ≡ fails (reason e) (index_of e)
      part-fails e w n comes bytes =
          let p = here n comes in
          sym p.leads ∙ ap (λ x. and_then x (λ r. parts_walked r p.rest))
          ((placed (Err e) w).value p.value (next-comes (at s.position) p.value comes.strict p.comes) bytes)

      module _ (x : X) (w : Walks view (λ t n. f.after t k n a) (Ok x) s s1) where
        there : (n : Node) (comes : Comes s0 n) → s1.position ≡ end (here n comes).value
        there n comes =
            let p = here n comes in
            (placed (Ok x) w).place p.value (next-comes (at s.position) p.value comes.strict p.comes)

        next-told : (n : Node) (comes : Comes s0 n)
            → Tells s1.position (here n comes).rest (here n comes).last
            (part_reply f.told (step t (container_step f.kind t) s1.position))
        next-told n comes =
            let p = here n comes in
            next-tells f.kind f.IsPart f.key f.value (at s1.position) f.told (meets-at s1.position) p.rest p.last
            (subst (λ i. StillLeft i p.rest p.last) (sym (there n comes)) p.left)

        -- In a document the step to the next part doesn't fail.
        pub step-not_failed : (c : Cause) (i stop : ℕ)
            → part_reply f.told (step t (container_step f.kind t) s1.position) ≡ refused c i stop → (n : Node) → Comes s0 n → ⊥
        step-not_failed c i stop is n comes =
            part-not_refused f.kind f.IsPart f.key f.value (at s1.position) _ _ _ c i stop (next-told n comes) is

        module _ (s2 : ReaderState) (o : Option K) (moves : MovesOn s1 s2)
            (given : part_reply f.told (step t (container_step f.kind t) s1.position) ≡ gave o s2.position) where
          next-left : (n : Node) → Comes s0 n → Left s2.position o (view x) n
          next-left n comes =
              let p = here n comes in
              record {
                last = p.last;
                rest = p.rest;
                here = part-given f.kind f.IsPart f.key f.value (at s1.position) (at s2.position) p.rest p.last _ o
                    (next-told n comes) given refl;
                leads =
                    sym (ap (λ x. and_then x (λ r. parts_walked r p.rest))
                    ((placed (Ok x) w).value p.value (next-comes (at s.position) p.value comes.strict p.comes))) ∙ p.leads;
                ends = p.ends;
              }

          pub walk-goes_on : WalkAt s2 o (view x)
          walk-goes_on = record {
            moves = moves-on s0 s1 s2 (moved (Ok x) w) moves;
            left = next-left;
            passes = λ strict.
                next-passes k s.position s1.position o s2.position (h.passes strict) ((placed (Ok x) w).reads strict)
                (moved (Ok x) w).within given;
          }

          -- Fewer bytes are left.
          pub less-left : s1.position < s2.position → length t - s2.position < length t - s.position
          less-left ahead = omega (arith, w.moves.forward, ahead, walk-goes_on.moves.within)

    -- After the last part.
    module _ (s : ReaderState) (a : S) (h : WalkAt s None a) where
      pub walk-ends : (n : Node) → Comes s0 n → (whole n ≡ gives a) × (s.position ≡ end n)
      walk-ends n comes = by (h.left n comes) (h.left n comes).rest (h.left n comes).here (h.left n comes).leads where
        by : (l : Left s.position None a n) (rest : List P) → Given s.position rest l.last None → parts_walked a rest ≡ whole n
            → (whole n ≡ gives a) × (s.position ≡ end n)
        by l [] here leads = (sym leads, here ∙ sym l.ends)
        by l (q ∷ qs) here leads = absurd here

      pub walk-passed : s0.partial_strings ≡ false
          → ((n : ℕ) → value_at (only_ends s0.names) t n (value_place s0) ≡ skipped n)
          → SkipsTo s0.names t (value_place s0) s.position
      walk-passed strict is = let p = h.passes strict in (p.0, is p.0 ∙ p.1 p.0 (omega arith))
