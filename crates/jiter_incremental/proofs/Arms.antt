-- A byte of a chunk where no token is unfinished: it is taken, or refused, in an open container whatever that is in.
use Rattle.jiter_incremental.proofs.Words.{◌≡◌, ◌⊎◌, ℕ, ◌+◌, ◌-◌, ◌<◌, ◌≤◌, true, false, List, [], ◌∷◌, ◌++◌, length}
use Rattle.jiter_incremental.proofs.Words.{refl, sym, subst, ap, ◌∙◌, arith, inl, inr, slice_get, slice_index}
use Rattle.jiter_incremental.proofs.Words.{slice_range, None, Some, append-nil, Global, CowStr, slice_get-get_or, ◌==◌}
use Rattle.jiter_incremental.proofs.Words.{eqb-true, fault_kind, is_forgiven, FaultKind, is_blank, is_active, text_view}
use Rattle.jiter_incremental.proofs.Words.{items_frame, begins_part, closer_of, comma_kind_of, closed, container_comma}
use Rattle.jiter_incremental.proofs.Words.{step, stuck, ContainerKind, PartTree, built, fault, Text, Tree, Arrived}
use Rattle.jiter_incremental.proofs.Words.{IsBeforeValue, IsBetweenParts, IsLeft, OpenValue, at_value, at_end}
use Rattle.jiter_incremental.proofs.Words.{between_parts, ClosesBefore, Everywhere, IsBeforePart, TakesByte, completed}
use Rattle.jiter_incremental.proofs.Words.{Document, HasTakenIn, ReadSoFar, Opened, IsRefused, StandsAt}
use Rattle.jiter_incremental.proofs.Words.{any_bytes, between_tokens, in_key, with_byte, AwaitsKey, AwaitsValue}
use Rattle.jiter_incremental.proofs.Words.{HasTakenTo, IsAt, IsHere, IsStill, MovesBy, Steps, ahead, ahead_as, document}
use Rattle.jiter_incremental.proofs.Words.{next_of, noted, refused, after_level, OpenFrame, filled, Awaits, Reader}
use Rattle.jiter_incremental.proofs.Words.{Token, append_assoc, past_blanks, past_blanks-blank, slice_range-split}
use Rattle.jiter_scan.specs.Ascii as ascii
use Rattle.jiter_scan.specs.declared.errors.FaultKind.TheVariants as fault_of
use Rattle.jiter_steps.specs.declared.parse.ContainerKind.TheVariants as shape
use Rattle.jiter_incremental.specs.Between.{IsAfter}
use Rattle.jiter_incremental.specs.Reader.{KeyHere, ValueHere}
use Rattle.jiter_incremental.specs.declared.reader.Awaits.TheVariants as awaits
use Rattle.jiter_incremental.specs.declared.reader.Token.TheVariants as token
use Rattle.jiter_incremental.proofs.Documents.{byte-first, known-any, known-here, closes-noted, closes-refused, follows-byte, refuses, taken-between, takes-byte, wrong-refused}
use Rattle.jiter_incremental.proofs.Between.{RowIs, at-value, between-of, between-parts, item-begins, key-begins, not-both, object-array, row-item, row-key, colon-missing, goes-blank, goes-colon, goes-comma, goes-end}
use Rattle.jiter_incremental.proofs.Between.{goes-missing, goes-wrong, missing-forgiven, put-left, row-comma, row-missing}
use Rattle.jiter_incremental.proofs.Documents.Blanks.{first-blank, run-taken}
use Rattle.jiter_incremental.proofs.Slots.{filled-same}
use Rattle.jiter_incremental.proofs.Settling.{ahead-level, none-slice, one-slice, steps-one}
use Rattle.jiter_incremental.proofs.Settling.{steps-here, steps-run}

zero-more : (n : ℕ) → n + 0 ≡ n
zero-more n = omega arith

-- Before a value nothing is known of what comes.
ahead-value : (k : Token) (a : Awaits) (chunk : List ℕ) (n : ℕ) → k ≡ token.Nothing → a ≡ awaits.Value
    → ahead_as k a chunk n ≡ any_bytes
ahead-value k a chunk n none is = rw (none, is) refl

ahead-before : (k : Token) (a : Awaits) (chunk : List ℕ) (n : ℕ) → k ≡ token.Nothing → IsBeforePart a
    → ahead_as k a chunk n ≡ any_bytes
ahead-before k awaits.First chunk n none before = rw none refl
ahead-before k awaits.Next chunk n none before = rw none refl
ahead-before k a chunk n none before = absurd before

pub comma-between : (a : Awaits) → a ≡ awaits.Comma → IsBetweenParts a
comma-between a is = subst IsBetweenParts (sym is) tt

-- The next byte of the chunk comes next.
known-as-byte : (chunk : List ℕ) (i : ℕ) → i < length chunk → (d : Document) (t : List ℕ) (o : Opened)
    → ReadSoFar (next_of (slice_get chunk i)) d t o → ReadSoFar (with_byte (slice_index chunk i)) d t o
known-as-byte chunk i within d t o k =
    subst (λ x. ReadSoFar (next_of x) d t o) (slice_get-get_or chunk i 0 within) k

known-next : (k : Token) (a : Awaits) (chunk : List ℕ) (i : ℕ) → i < length chunk → (d : Document) (t : List ℕ) (o : Opened)
    → ReadSoFar (ahead_as k a chunk i) d t o → ReadSoFar (with_byte (slice_index chunk i)) d t o
known-next token.Nothing awaits.Comma chunk i within d t o k = known-as-byte chunk i within d t o k
known-next token.Nothing awaits.Nothing chunk i within d t o k = known-as-byte chunk i within d t o k
known-next k a chunk i within d t o h = known-any (with_byte (slice_index chunk i)) d t o h

-- What is open before the byte, where no token is unfinished
pub record Here (c : ℕ) (d : Document) (t : List ℕ) : Type 0 where
  pub state : Arrived
  pub known : ReadSoFar (with_byte c) d t (between_tokens state)
  pub left : IsLeft d.value state

pub here-at : (chunk : List ℕ) (i : Reader) (x : Tree) (t : List ℕ) → i.at < length chunk → i.fault ≡ None
    → i.token ≡ token.Nothing → HasTakenTo chunk i x t → Here (slice_index chunk i.at) (document i x) t
here-at chunk i x t within unset none h =
    let d = document i x in
    let n = ahead i chunk i.at in
    let b = taken-between n d t h.read unset none in
    record {
      state = b.state;
      known = known-next i.token i.awaits chunk i.at within d t (between_tokens b.state) b.known;
      left = b.left;
    }

-- the same reader, where this is awaited
abbrev pub turned : Reader → Awaits → ℕ → CowStr Global → Reader
turned i a n k = record i { awaits = a; depth = n; key = k }

module _ (level : ℕ) (chunk : List ℕ) (i : Reader) (v : Tree) (h : IsHere level chunk i v) (none : i.token ≡ token.Nothing)
  where
    abbrev c : ℕ
    c = slice_index chunk i.at

    -- The byte is taken: something else is awaited then.
    pub byte-taken : (a : Awaits) (n : ℕ) (k : CowStr Global) (w : Tree) → level ≤ n + 1 → n ≤ level + 1 → n ≤ 201
        → ((outer : List OpenFrame) → IsAt level outer → (s : Arrived) → IsLeft (document i (filled outer v)).value s
        → TakesByte (document (turned i a n k) (filled outer w)).value s c)
        → Steps level chunk i v (turned i a n k) w 1
    byte-taken a n k w up down low takes =
        let j = turned i a n k in
        let moves : MovesBy level chunk i j 1 =
        record {
          within = omega (arith, h.inside);
          some = inl (omega arith);
          still = (refl, refl, refl, refl);
          depth = (up, down);
          low = low;
          calm = λ _. h.unset;
        } in
        steps-one level chunk i v j w h.inside moves
        (λ t outer at r.
        let x = filled outer v in
        let b = here-at chunk i x t h.inside h.unset none r in
        takes-byte (document i x) (document j (filled outer w)).value c t b.state b.known none
        (takes outer at b.state b.left))

    -- It is refused there,
    pub byte-refused : (kind : FaultKind) → ((t : List ℕ) (outer : List OpenFrame) → IsAt level outer → (s : Arrived)
        → StandsAt c (document i (filled outer v)) t s → IsLeft (document i (filled outer v)).value s
        → IsRefused (document i (filled outer v)) any_bytes (t ++ c ∷ []) (fault_kind kind) (i.base + i.at))
        → Steps level chunk i v (refused i kind (i.base + i.at)) v 1
    byte-refused kind fails =
        let j = refused i kind (i.base + i.at) in
        steps-here level chunk i v j v h (refl, refl, refl, refl) refl
        (λ t outer at r.
        let x = filled outer v in
        let d = document i x in
        let b = here-at chunk i x t h.inside h.unset none r in
        let stands : StandsAt c d t b.state =
        record { known = b.known; token = none; unset = h.unset; position = r.position } in
        refuses (with_byte c) any_bytes d t (c ∷ []) (between_tokens b.state) kind d.position h.unset b.known
        (follows-byte c) (fails t outer at b.state stands b.left))

    -- where it is an error whatever comes.
    pub byte-wrong : (kind : FaultKind) → ((outer : List OpenFrame) → IsAt level outer → (s : Arrived)
        → IsLeft (document i (filled outer v)).value s
        → Everywhere c (λ p u j. completed p u s j ≡ fault (fault_kind kind) j j))
        → Steps level chunk i v (refused i kind (i.base + i.at)) v 1
    byte-wrong kind wrong =
        byte-refused kind
        (λ t outer at s stands left.
        let d = document i (filled outer v) in
        wrong-refused d d.value c t s kind stands (wrong outer at s left))

    -- A colon after a key,
    module _ (awaits-colon : i.awaits ≡ awaits.Colon) (other : is_blank c ≡ false) where
      pub colon-passed : (c == 58) ≡ true → Steps level chunk i v (record i { awaits = awaits.Value }) v 1
      colon-passed colon =
          byte-taken awaits.Value i.depth i.key v (omega (arith, h.here)) (omega (arith, h.here)) (omega (arith, h.here, h.low))
          (λ outer at s left.
          let new = (document (turned i awaits.Value i.depth i.key) (filled outer v)).value in
          let a = at-value (document i (filled outer v)).value awaits.Colon s awaits-colon tt left in
          subst (λ x. TakesByte new x c) (sym a.all) (goes-colon new a.frames c other colon a.left a.key refl))

      -- or none.
      pub colon-missed : (c == 58) ≡ false
          → Steps level chunk i v (refused i fault_of.ExpectedColon (i.base + i.at)) v 1
      colon-missed missed =
          byte-wrong fault_of.ExpectedColon
          (λ outer at s left p u j here.
          let a = at-value (document i (filled outer v)).value awaits.Colon s awaits-colon tt left in
          ap (λ x. completed p u x j) a.all ∙ colon-missing p u j c here other a.frames missed)

    -- A part or a comma is awaited in a container alone.
    open-some : (s : Arrived) → IsLeft (document i (filled h.read.1 v)).value s → IsBetweenParts i.awaits → 0 < i.depth
    open-some (at_value b fs) left between = absurd (not-both b left.1 (subst IsBetweenParts left.0 between))
    open-some (between_parts b k xs fs) left between = omega (arith, left.2)
    open-some (at_end x n) left between = absurd (subst IsBetweenParts left.0 between)

    pub between-some : IsBetweenParts i.awaits → 0 < level
    between-some between =
        let b = here-at chunk i (filled h.read.1 v) h.read.0 h.inside h.unset none h.read.3 in
        omega (arith, open-some b.state b.left between, h.here)

    pub before-some : IsBeforePart i.awaits → 0 < level
    before-some before = between-some (between-of i.awaits before)

    -- Between the parts of a container
    module _ (some : 0 < level) (a : Awaits) (is : i.awaits ≡ a) (between : IsBetweenParts a) (other : is_blank c ≡ false)
      where
        -- this one,
        pub record Inside (outer : List OpenFrame) (s : Arrived) : Type 0 where
          pub shape : ContainerKind
          pub parts : List (PartTree shape)
          pub all : s ≡ between_parts a shape parts outer
          pub whole : v ≡ built shape parts
          pub deep : i.depth ≡ length outer + 1

        pub inside-of : (outer : List OpenFrame) → IsAt level outer → (s : Arrived)
            → IsLeft (document i (filled outer v)).value s → Inside outer s
        inside-of outer at s left =
            let b = between-parts (document i (filled outer v)).value a s is between left in
            let long : length outer ≡ length b.frames = omega (arith, b.deep, h.here, at, some) in
            let same = filled-same outer b.frames v (built b.shape b.parts) long b.left in
            record {
              shape = b.shape;
              parts = b.parts;
              all = b.all ∙ ap (λ fs. between_parts a b.shape b.parts fs) (sym same.0);
              whole = same.1;
              deep = omega (arith, h.here, at, some);
            }

        -- the byte is a comma,
        pub comma-passed : a ≡ awaits.Comma → c ≡ 44 → Steps level chunk i v (record i { awaits = awaits.Next }) v 1
        comma-passed comma is44 =
            byte-taken awaits.Next i.depth i.key v (omega (arith, h.here)) (omega (arith, h.here)) (omega (arith, h.here, h.low))
            (λ outer at s left.
            let b = inside-of outer at s left in
            let new = (document (turned i awaits.Next i.depth i.key) (filled outer v)).value in
            let row = subst (λ x. RowIs x c (λ t j. step t (container_comma b.shape) (j + 1)) b.shape) (sym comma)
            (row-comma b.shape c is44) in
            let goes = goes-comma a b.shape b.parts outer c other new row refl b.deep (ap (filled outer) b.whole) in
            subst (λ x. TakesByte new x c) (sym b.all) goes)

        -- or the closer, which ends it,
        pub container-ends : ((b : ContainerKind) (xs : List (PartTree b)) → v ≡ built b xs
            → RowIs a c (λ t j. closed (j + 1)) b)
            → Steps level chunk i v (turned i (after_level (i.depth - 1)) (i.depth - 1) i.key) v 1
        container-ends row =
            byte-taken (after_level (i.depth - 1)) (i.depth - 1) i.key v (omega (arith, h.here, some))
            (omega (arith, h.here)) (omega (arith, h.here, h.low))
            (λ outer at s left.
            let b = inside-of outer at s left in
            let new = (document (turned i (after_level (i.depth - 1)) (i.depth - 1) i.key) (filled outer v)).value in
            let place : new.depth ≡ length outer = omega (arith, b.deep) in
            let there = put-left new (built b.shape b.parts) outer (place, ap (filled outer) b.whole) refl in
            let goes = goes-end a b.shape b.parts outer c other new (row b.shape b.parts b.whole) there in
            subst (λ x. TakesByte new x c) (sym b.all) goes)

        -- or wrong.
        pub part-refused : (kind : FaultKind) → is_forgiven (fault_kind kind) ≡ false
            → ((b : ContainerKind) (xs : List (PartTree b)) → v ≡ built b xs
            → RowIs a c (λ t j. stuck (fault_kind kind) j) b)
            → Steps level chunk i v (refused i kind (i.base + i.at)) v 1
        part-refused kind bad row =
            byte-wrong kind
            (λ outer at s left p u j here.
            let b = inside-of outer at s left in
            ap (λ x. completed p u x j) b.all
            ∙ goes-wrong a b.shape b.parts outer c other (fault_kind kind) (row b.shape b.parts b.whole) bad p u j here)

        -- A comma or the closer is missing before the byte: the container ends in a partial mode,
        abbrev pub Misses : FaultKind → Type 0
        Misses kind =
            (b : ContainerKind) (xs : List (PartTree b)) → v ≡ built b xs
            → (¬ (c ≡ closer_of b)) × (fault_kind kind ≡ comma_kind_of b)

        closes : (kind : FaultKind) → a ≡ awaits.Comma → ¬ (c ≡ 44) → Misses kind → (outer : List OpenFrame)
            → IsAt level outer → (s : Arrived) → IsLeft (document i (filled outer v)).value s → (new : OpenValue)
            → new.awaits ≡ after_level (i.depth - 1) → new.depth ≡ i.depth - 1 → new.tree ≡ filled outer v
            → ClosesBefore new s c (fault_kind kind)
        closes kind comma one miss outer at s left new is deep tree =
            let b = inside-of outer at s left in
            let m = miss b.shape b.parts b.whole in
            let place : new.depth ≡ length outer = omega (arith, b.deep, deep) in
            let there = put-left new (built b.shape b.parts) outer (place, tree ∙ ap (filled outer) b.whole)
            (is ∙ ap after_level (sym deep)) in
            let row = subst (λ x. RowIs x c (λ t j. stuck (comma_kind_of b.shape) j) b.shape) (sym comma)
            (row-missing b.shape c one m.0) in
            let goes = goes-missing a b.shape b.parts outer c other new (comma_kind_of b.shape) row
            (missing-forgiven b.shape) there in
            subst (λ k. ClosesBefore new s c k) (sym m.1) (subst (λ x. ClosesBefore new x c (comma_kind_of b.shape)) (sym b.all) goes)

        pub container-misses : (kind : FaultKind) → a ≡ awaits.Comma → ¬ (c ≡ 44) → Misses kind
            → is_active i.settings.mode ≡ true
            → Steps level chunk i v
            (turned (noted i kind (i.base + i.at)) (after_level (i.depth - 1)) (i.depth - 1) i.key) v 0
        container-misses kind comma one miss on =
            let j = turned (noted i kind (i.base + i.at)) (after_level (i.depth - 1)) (i.depth - 1) i.key in
            let here : ahead j chunk (i.at + 0) ≡ with_byte c =
            ap (ahead j chunk) (zero-more i.at)
            ∙ ahead-level j.token j.awaits (i.depth - 1) chunk i.at none refl h.inside in
            record {
              goes = λ t outer at r.
                  let x = filled outer v in
                  let d = document i x in
                  let e = document j x in
                  let b = here-at chunk i x t h.inside h.unset none r in
                  let stands : StandsAt c d t b.state =
                  record { known = b.known; token = none; unset = h.unset; position = r.position } in
                  let g = closes kind comma one miss outer at b.state b.left e.value refl refl refl in
                  subst (λ n. HasTakenIn n e (t ++ slice_range chunk i.at (i.at + 0))) (sym here)
                  (subst (λ u. HasTakenIn (with_byte c) e u)
                  (sym (ap (λ u. t ++ u) (none-slice chunk i.at) ∙ append-nil t))
                  (closes-noted d e.value c t b.state kind stands g on));
              moves =
                  record {
                    within = omega (arith, h.inside);
                    some = inr (omega (arith, h.here, some));
                    still = (refl, refl, refl, refl);
                    depth = (omega (arith, h.here, some), omega (arith, h.here));
                    low = omega (arith, h.here, h.low);
                    calm = λ _. h.unset;
                  };
            }

        -- else it is refused.
        pub container-refused : (kind : FaultKind) → a ≡ awaits.Comma → ¬ (c ≡ 44) → Misses kind
            → is_active i.settings.mode ≡ false → Steps level chunk i v (refused i kind (i.base + i.at)) v 1
        container-refused kind comma one miss off =
            byte-refused kind
            (λ t outer at x stands left.
            let new : OpenValue =
            record {
              awaits = after_level (i.depth - 1);
              depth = i.depth - 1;
              key = text_view i.key;
              tree = filled outer v;
            } in
            closes-refused (document i (filled outer v)) c t x kind new stands
            (closes kind comma one miss outer at x left new refl refl refl) off)

    -- A value is awaited,
    pub awaits-value : i.awaits ≡ awaits.Value → AwaitsValue level chunk i v
    awaits-value is = record {
      free = ahead-value i.token i.awaits chunk i.at none is;
      goes = λ t outer at r.
          let x = filled outer v in
          let d = document i x in
          let b = here-at chunk i x t h.inside h.unset none r in
          let a = at-value d.value awaits.Value b.state is tt b.left in (
            a.frames,
            record {
              known = subst (λ s. ReadSoFar (with_byte c) d t (between_tokens s)) a.all b.known;
              part = a.left;
              key = a.key;
              position = r.position;
            },
          );
    }

    -- or an item of an array,
    module _ (some : 0 < level) (before : IsBeforePart i.awaits) (other : is_blank c ≡ false)
        (begins : (b : ContainerKind) (xs : List (PartTree b)) → v ≡ built b xs → begins_part b c ≡ true) where
      pub awaits-item : ((b : ContainerKind) (xs : List (PartTree b)) → v ≡ built b xs → b ≡ shape.Array)
          → AwaitsValue level chunk i v
      awaits-item array = record {
        free = ahead-before i.token i.awaits chunk i.at none before;
        goes = λ t outer at r.
            let x = filled outer v in
            let d = document i x in
            let b = here-at chunk i x t h.inside h.unset none r in
            let p = inside-of some i.awaits refl (between-of i.awaits before) other outer at b.state b.left in
            by t outer r b.state b.known p.shape p.parts p.all p.whole p.deep (array p.shape p.parts p.whole)
            (begins p.shape p.parts p.whole);
      } where
        by : (t : List ℕ) (outer : List OpenFrame) → HasTakenTo chunk i (filled outer v) t → (s : Arrived)
            → ReadSoFar (with_byte c) (document i (filled outer v)) t (between_tokens s)
            → (b : ContainerKind) (xs : List (PartTree b)) → s ≡ between_parts i.awaits b xs outer → v ≡ built b xs
            → i.depth ≡ length outer + 1 → b ≡ shape.Array → begins_part b c ≡ true
            → (fs : List OpenFrame) × ValueHere c (document i (filled outer v)) t fs
        by t outer r s k shape.Array xs all whole deep is first =
            let d = document i (filled outer v) in
            let o' = between_tokens (at_value awaits.Value (items_frame xs ∷ outer)) in (
              items_frame xs ∷ outer,
              record {
                known =
                    known-here (with_byte c) d t (between_tokens s) o' k
                    (λ p reading u comes.
                    let at : slice_get (t ++ u) (length t) ≡ Some c =
                    subst (λ w. slice_get (t ++ w) (length t) ≡ Some c) (sym comes.1) (byte-first c t comes.0) in
                    ap (λ s. completed p (t ++ u) s (length t)) all
                    ∙ item-begins p (t ++ u) (length t) c at other i.awaits xs outer (row-item i.awaits c before first p (t ++ u) (length t)))
                    (λ first. tt);
                part = (deep, ap (filled outer) whole);
                key = tt;
                position = r.position;
              },
            )
        by t outer r s k shape.Object xs all whole deep is first = absurd (object-array is)

      -- or a key of an object.
      pub awaits-key : ((b : ContainerKind) (xs : List (PartTree b)) → v ≡ built b xs → b ≡ shape.Object)
          → AwaitsKey level chunk i v
      awaits-key object = record {
        quote = quote-of;
        free = ahead-before i.token i.awaits chunk i.at none before;
        goes = λ t outer at r.
            let x = filled outer v in
            let d = document i x in
            let b = here-at chunk i x t h.inside h.unset none r in
            let p = inside-of some i.awaits refl (between-of i.awaits before) other outer at b.state b.left in
            by t outer r b.state b.known p.shape p.parts p.all p.whole p.deep (object p.shape p.parts p.whole)
            (begins p.shape p.parts p.whole);
      } where
        quote-of : c ≡ ascii.quote
        quote-of =
            let r = h.read.3 in
            let outer = h.read.1 in
            let x = filled outer v in
            let b = here-at chunk i x h.read.0 h.inside h.unset none r in
            let p = inside-of some i.awaits refl (between-of i.awaits before) other outer h.read.2 b.state b.left in
            let first = begins p.shape p.parts p.whole in
            eqb-true c ascii.quote (subst (λ b. begins_part b c ≡ true) (object p.shape p.parts p.whole) first)

        by : (t : List ℕ) (outer : List OpenFrame) → HasTakenTo chunk i (filled outer v) t → (s : Arrived)
            → ReadSoFar (with_byte c) (document i (filled outer v)) t (between_tokens s)
            → (b : ContainerKind) (xs : List (PartTree b)) → s ≡ between_parts i.awaits b xs outer → v ≡ built b xs
            → i.depth ≡ length outer + 1 → b ≡ shape.Object → begins_part b c ≡ true
            → (fs : List OpenFrame) × (ms : List (Text × Tree)) × KeyHere c (document i (filled outer v)) t fs ms
        by t outer r s k shape.Object ms all whole deep is first =
            let d = document i (filled outer v) in (
              outer,
              ms,
              record {
                known =
                    known-here (with_byte c) d t (between_tokens s) (in_key outer ms (length t)) k
                    (λ p reading u comes.
                    let at : slice_get (t ++ u) (length t) ≡ Some c =
                    subst (λ w. slice_get (t ++ w) (length t) ≡ Some c) (sym comes.1) (byte-first c t comes.0) in
                    ap (λ s. completed p (t ++ u) s (length t)) all
                    ∙ key-begins p (t ++ u) (length t) c at other i.awaits ms outer (row-key i.awaits c before first p (t ++ u) (length t)))
                    (λ first. tt);
                deep = deep;
                tree = ap (filled outer) whole;
                position = r.position;
              },
            )
        by t outer r s k shape.Array xs all whole deep is first = absurd (object-array (sym is))

    -- After a value: in a container a comma or its end is awaited, and else nothing.
    after-value : (a : Awaits) → IsAfter a → IsBeforeValue a → ⊥
    after-value awaits.Comma after before = before
    after-value awaits.Nothing after before = before
    after-value a after before = after

    comma-or : (a : Awaits) → IsAfter a → (a ≡ awaits.Comma) ⊎ (a ≡ awaits.Nothing)
    comma-or awaits.Comma after = inl refl
    comma-or awaits.Nothing after = inr refl
    comma-or a after = absurd after

    nothing-left : (s : Arrived) (outer : List OpenFrame) → IsLeft (document i (filled outer v)).value s → IsAfter i.awaits
        → i.depth ≡ 0 → i.awaits ≡ awaits.Nothing
    nothing-left (at_value b fs) outer left after deep =
        absurd (after-value b (subst IsAfter left.0 after) left.1)
    nothing-left (between_parts b k xs fs) outer left after deep = absurd (omega (arith, left.2, deep))
    nothing-left (at_end x n) outer left after deep = left.0

    comma-left : (s : Arrived) (outer : List OpenFrame) → IsLeft (document i (filled outer v)).value s → IsAfter i.awaits
        → 0 < i.depth → i.awaits ≡ awaits.Comma
    comma-left (at_value b fs) outer left after deep = absurd (after-value b (subst IsAfter left.0 after) left.1)
    comma-left (between_parts b k xs fs) outer left after deep = by (comma-or i.awaits after) where
      by : (i.awaits ≡ awaits.Comma) ⊎ (i.awaits ≡ awaits.Nothing) → i.awaits ≡ awaits.Comma
      by (inl is) = is
      by (inr is) = absurd (subst IsBetweenParts (sym left.0 ∙ is) left.1)
    comma-left (at_end x n) outer left after deep = absurd (omega (arith, left.1, deep))

    pub comma-of : 0 < level → IsAfter i.awaits → i.awaits ≡ awaits.Comma
    comma-of some after =
        let b = here-at chunk i (filled h.read.1 v) h.read.0 h.inside h.unset none h.read.3 in
        comma-left b.state h.read.1 b.left after (omega (arith, some, h.here))

    pub trailed : (j : Reader) → level ≡ 0 → IsAfter i.awaits → is_blank c ≡ false → IsStill i j
        → (j.depth ≡ i.depth) × (j.token ≡ i.token)
        → ((b : ℕ) (t : List ℕ) (x : Tree) (s : Arrived) → StandsAt b (document i x) t s
        → IsLeft (document i x).value s → i.awaits ≡ awaits.Nothing → is_blank b ≡ false
        → HasTakenIn any_bytes (document j x) (t ++ b ∷ []))
        → Steps level chunk i v j v 1
    trailed j root after other still same taken =
        steps-here level chunk i v j v h still same.0
        (λ t outer at r.
        let x = filled outer v in
        let b = here-at chunk i x t h.inside h.unset none r in
        let stands : StandsAt c (document i x) t b.state =
        record { known = b.known; token = none; unset = h.unset; position = r.position } in
        taken c t x b.state stands b.left (nothing-left b.state outer b.left after (omega (arith, h.here, root))) other)

-- Whitespace is taken.
pub blanks-step : (level : ℕ) (chunk : List ℕ) (i : Reader) (v : Tree) (h : IsHere level chunk i v)
    → i.token ≡ token.Nothing → (n : ℕ) → 0 < n → i.at + n ≡ past_blanks chunk i.at → i.at + n ≤ length chunk
    → Steps level chunk i v i v n
blanks-step level chunk i v h none n some end within =
    let c = slice_index chunk i.at in
    let blank : is_blank c ≡ true = first-blank chunk i.at (omega (arith, end, some)) in
    let next : past_blanks chunk i.at ≡ past_blanks chunk (i.at + 1) = past_blanks-blank chunk i.at h.inside blank in
    steps-run level chunk i v i v h n some within (refl, refl, refl, refl) refl
    (λ t outer at r.
    let x = filled outer v in
    let d = document i x in
    let b = here-at chunk i x t h.inside h.unset none r in
    let one : HasTakenIn any_bytes d (t ++ c ∷ []) =
    takes-byte d d.value c t b.state b.known none (goes-blank d.value b.state c blank b.left) in
    let rest : (i.at + 1) + (n - 1) ≡ past_blanks chunk (i.at + 1) = omega (arith, end, next, some) in
    let more = run-taken d (t ++ c ∷ []) one h.unset none chunk (i.at + 1) (n - 1) rest (omega (arith, h.inside)) in
    let place : (i.at + 1) + (n - 1) ≡ i.at + n = omega (arith, some) in
    let bytes : (t ++ c ∷ []) ++ slice_range chunk (i.at + 1) ((i.at + 1) + (n - 1)) ≡ t ++ slice_range chunk i.at (i.at + n) =
    append_assoc t (c ∷ []) (slice_range chunk (i.at + 1) ((i.at + 1) + (n - 1)))
    ∙ ap (λ u. t ++ u)
    (ap (λ m. c ∷ [] ++ slice_range chunk (i.at + 1) m) place
    ∙ ap (λ u. u ++ slice_range chunk (i.at + 1) (i.at + n)) (sym (one-slice chunk i.at h.inside))
    ∙ sym (slice_range-split chunk i.at (i.at + 1) (omega arith) (i.at + n) (omega (arith, some)))) in
    subst (HasTakenIn any_bytes d) bytes more)
