-- The open path of a value that comes in chunks: what is read in a container is read in those that it is in.
use Rattle.jiter_incremental.proofs.Words.{ReadsAsBefore, ◌≡◌, ℕ, ◌+◌, ◌-◌, ◌<◌, ◌≤◌, ◌^◌, Bool, true, false, List, []}
use Rattle.jiter_incremental.proofs.Words.{◌∷◌, ◌++◌, length, take, refl, sym, subst, ap, ◌∙◌, arith, length-append}
use Rattle.jiter_incremental.proofs.Words.{add-one, append_assoc, None, slice_range, append-nil, take_all}
use Rattle.jiter_incremental.proofs.Words.{slice_get_past, items_frame, members_frame, Tree, PartialNumber}
use Rattle.jiter_incremental.proofs.Words.{PartialString, Arrived, IsLeft, OpenValue, at_value, between_parts, at_end}
use Rattle.jiter_incremental.proofs.Words.{text_of, Document, HasArrived, HasMoved, HasReadIn, HoldsOpened, IsMoved}
use Rattle.jiter_incremental.proofs.Words.{Next, Opened, Parted, any_bytes, between_tokens, in_key, in_scalar}
use Rattle.jiter_incremental.proofs.Words.{token_tree, HasReadTo, IsComplete, Ready, Refuses, Steps, Advanced, ahead}
use Rattle.jiter_incremental.proofs.Words.{ahead_as, document, next_of, OpenFrame, around, begun, filled, Awaits}
use Rattle.jiter_incremental.proofs.Words.{Reader, Token, HasTakenIn, HasTakenTo}
use Rattle.jiter_incremental.proofs.Settling.{apart-read, reads-apart, read-any, taken-any}
use Rattle.jiter_steps.specs.declared.parse.ContainerKind.TheVariants as shape
use Rattle.jiter_incremental.specs.declared.reader.Awaits.TheVariants as awaits
use Rattle.jiter_incremental.specs.declared.reader.Token.TheVariants as token
use Rattle.jiter_incremental.proofs.Chunks.{range-long, take-on}
use Rattle.jiter_incremental.proofs.Documents.{moved}
use Rattle.jiter_incremental.proofs.Slots.{filled-push, last-of, nested-in, part-more}

-- So many containers are open in a value: the innermost is between two parts.
pub record OpenTree (depth : ℕ) (v : Tree) : Type 0 where
  pub frames : List OpenFrame
  pub innermost : OpenFrame
  pub deep : depth ≡ length frames + 1
  pub is : v ≡ filled frames (begun innermost)

open-left : (v : OpenValue) (s : Arrived) → IsLeft v s → 0 < v.depth → OpenTree v.depth v.tree
open-left v (at_value a []) h some = absurd (omega (arith, h.2, some))
open-left v (at_value a (f ∷ fs)) h some = record { frames = fs; innermost = f; deep = h.2.0; is = h.2.1 }
open-left v (between_parts a shape.Array xs fs) h some =
    record { frames = fs; innermost = items_frame xs; deep = h.2; is = h.3 }
open-left v (between_parts a shape.Object ms fs) h some =
    record { frames = fs; innermost = members_frame ms (text_of []); deep = h.2; is = h.3 }
open-left v (at_end x n) h some = absurd (omega (arith, h.1, some))

pub open-held : (d : Document) (t : List ℕ) (o : Opened) → HoldsOpened d t o → 0 < d.value.depth → OpenTree d.value.depth d.value.tree
open-held d t (between_tokens s) h some = open-left d.value s h.1 some
open-held d t (in_scalar fs b) h some = open-left d.value (at_value awaits.Value fs) h.3 some
open-held d t (in_key fs ms b) h some =
    record { frames = fs; innermost = members_frame ms (text_of []); deep = h.5; is = h.6 }

open-around : (depth : ℕ) (v : Tree) (fs : List OpenFrame) (x : Tree) → depth ≡ length fs → v ≡ filled fs x
    → 0 < depth → OpenTree depth v
open-around depth v [] x deep is some = absurd (omega (arith, deep, some))
open-around depth v (f ∷ fs) x deep is some =
    let w = part-more f x in
    record {
      frames = fs;
      innermost = w.0;
      deep = deep ∙ sym (add-one (length fs));
      is = is ∙ ap (filled fs) w.1;
    }

-- What was moved is no key, and no token is finished.
pub moved-nothing : (k : Token) (d : Document) (n : PartialNumber) (s : PartialString) (x : Tree) → HasMoved k d n s x
    → k ≡ token.Nothing → ⊥
moved-nothing token.Nothing d n s x h is = h
moved-nothing token.Word d n s x h is = h
moved-nothing token.Number d n s x h is = cc
moved-nothing token.Text d n s x h is = cc
moved-nothing token.Key d n s x h is = h

pub moved-key : (k : Token) (d : Document) (n : PartialNumber) (s : PartialString) (x : Tree) → HasMoved k d n s x
    → k ≡ token.Key → ⊥
moved-key token.Nothing d n s x h is = h
moved-key token.Word d n s x h is = h
moved-key token.Number d n s x h is = cc
moved-key token.Text d n s x h is = cc
moved-key token.Key d n s x h is = h

-- Where the scalar is in the value, it is the last part of the innermost container.
open-shown : (d new : Document) (t : List ℕ) (o : Opened) → HoldsOpened d t o → IsMoved true d new → 0 < new.value.depth
    → OpenTree new.value.depth new.value.tree
open-shown d new t (between_tokens s) h m some = absurd (moved-nothing d.token d new.number new.string _ m.0 h.0)
open-shown d new t (in_key fs ms b) h m some = absurd (moved-key d.token d new.number new.string _ m.0 h.2)
open-shown d new t (in_scalar fs b) h m some =
    let there = m.1.value fs h.3.2 h.3.3 in
    open-around new.value.depth new.value.tree fs (token_tree d d.token) there.0 there.1 some

pub open-settled : (d : Document) (t : List ℕ) (o : Opened) → Parted d t o → 0 < d.value.depth
    → OpenTree d.value.depth d.value.tree
open-settled d t o h some = by d.shown refl h.moved where
  by : (b : Bool) → d.shown ≡ b → IsMoved b h.apart d → OpenTree d.value.depth d.value.tree
  by true is m = open-shown h.apart d t o h.held m some
  by false is m =
      let same = m.2 in
      subst (λ (v : OpenValue). OpenTree v.depth v.tree) (sym same)
      (open-held h.apart t o h.held (subst (λ (v : OpenValue). 0 < v.depth) same some))

-- the last part of a container in which others are open
pub last-part : (level : ℕ) (chunk : List ℕ) (i : Reader) (v : Tree) → Ready level chunk i v → i.fault ≡ None
    → 0 < level → level < i.depth → (f : OpenFrame) × (y : Tree) × (v ≡ around f y)
last-part level chunk i v r unset some deeper =
    let outer = r.read.1 in
    let read = r.read.3.read in
    let o = open-settled (document i (filled outer v)) (r.read.0 ++ take i.at chunk) read.opened (read.held unset)
    (omega (arith, deeper)) in
    let few : length outer ≤ length o.frames = omega (arith, o.deep, deeper, r.read.2, some) in
    let n = nested-in outer o.frames v (begun o.innermost) few o.is in
    let long : 0 < length n.inner =
    omega (arith, o.deep, deeper, r.read.2, some, ap length n.all, length-append n.inner outer) in
    let last = last-of n.inner long in
    let front = take (length n.inner - 1) n.inner in (
      last.0,
      filled front (begun o.innermost),
      n.is ∙ ap (λ gs. filled gs (begun o.innermost)) last.1
          ∙ filled-push front last.0 (begun o.innermost),
    )

-- What is ready for a container is ready for the last part of it,
pub below : (level : ℕ) (chunk : List ℕ) (i : Reader) (v : Tree) (f : OpenFrame) (x : Tree) → Ready level chunk i v
    → 0 < level → level < i.depth → v ≡ around f x → Ready (level + 1) chunk i x
below level chunk i v f x r some deeper is = record {
  above = omega (arith, deeper);
  low = r.low;
  within = r.within;
  room = r.room;
  read = (
    r.read.0,
    f ∷ r.read.1,
    omega (arith, r.read.2, some),
    subst (λ u. HasReadTo chunk i (filled r.read.1 u) (r.read.0 ++ take i.at chunk)) is r.read.3,
  );
}

-- and what went on in that went on in the container.
pub above : (level : ℕ) (chunk : List ℕ) (i : Reader) (x : Tree) (j : Reader) (y : Tree) (f : OpenFrame) (v w : Tree)
    → 0 < level → v ≡ around f x → w ≡ around f y → Advanced (level + 1) chunk i x j y → Advanced level chunk i v j w
above level chunk i x j y f v w some was is q = record {
  after = q.after;
  within = q.within;
  same = q.same;
  depth = omega (arith, q.depth);
  low = q.low;
  reads = record {
    goes = λ t outer n r.
        subst (λ u. HasReadTo chunk j (filled outer u) (t ++ take j.at chunk)) (sym is)
        (q.reads.goes t (f ∷ outer) (omega (arith, n, some))
        (subst (λ u. HasReadTo chunk i (filled outer u) (t ++ take i.at chunk)) was r));
  };
}

pub refuses-above : (level : ℕ) (chunk : List ℕ) (i : Reader) (x : Tree) (j : Reader) (f : OpenFrame) (v : Tree)
    → 0 < level → v ≡ around f x → Refuses (level + 1) chunk i x j → Refuses level chunk i v j
refuses-above level chunk i x j f v some was q = record {
  goes = λ t outer n r.
      q.goes t (f ∷ outer) (omega (arith, n, some))
      (subst (λ u. HasReadTo chunk i (filled outer u) (t ++ take i.at chunk)) was r);
  free = q.free;
}

-- One after the other
pub went-then : (level : ℕ) (chunk : List ℕ) (i : Reader) (v : Tree) (j : Reader) (w : Tree) (k : Reader) (x : Tree)
    → Advanced level chunk i v j w → Advanced level chunk j w k x → Advanced level chunk i v k x
went-then level chunk i v j w k x a b = record {
  after = omega (arith, a.after, b.after);
  within = b.within;
  same = (b.same.0 ∙ a.same.0, b.same.1 ∙ a.same.1);
  depth = b.depth;
  low = b.low;
  reads = record { goes = λ t outer n r. b.reads.goes t outer n (a.reads.goes t outer n r) };
}

pub refuses-then : (level : ℕ) (chunk : List ℕ) (i : Reader) (v : Tree) (j : Reader) (w : Tree) (k : Reader)
    → Advanced level chunk i v j w → Refuses level chunk j w k → Refuses level chunk i v k
refuses-then level chunk i v j w k a b = record {
  goes = λ t outer n r. b.goes t outer n (a.reads.goes t outer n r);
  free = b.free;
}

pub ready-then : (level : ℕ) (chunk : List ℕ) (i : Reader) (v : Tree) (j : Reader) (w : Tree) → Ready level chunk i v
    → Advanced level chunk i v j w → level ≤ j.depth → Ready level chunk j w
ready-then level chunk i v j w r a deep = record {
  above = deep;
  low = a.low;
  within = a.within;
  room = subst (λ b. b + length chunk < 2 ^ 64) (sym a.same.1) r.room;
  read = (r.read.0, r.read.1, r.read.2, a.reads.goes r.read.0 r.read.1 r.read.2 r.read.3);
}

pub went-none : (level : ℕ) (chunk : List ℕ) (i : Reader) (v : Tree) → Ready level chunk i v → Advanced level chunk i v i v
went-none level chunk i v r = record {
  after = omega arith;
  within = r.within;
  same = (refl, refl);
  depth = omega (arith, r.above);
  low = r.low;
  reads = record { goes = λ t outer n h. h };
}

-- What is unfinished is apart,
pub taken-to : (chunk : List ℕ) (i : Reader) (x : Tree) (t : List ℕ) → i.shown ≡ false → HasReadTo chunk i x t
    → HasTakenTo chunk i x t
taken-to chunk i x t hidden r =
    record { read = apart-read (ahead i chunk i.at) (document i x) t r.read hidden; position = r.position }

-- and the bytes of a step are counted.
read-to : (n : Next) (j : Reader) (x : Tree) (p : ℕ) (t : List ℕ) → j.shown ≡ false → HasTakenIn n (document j x) t
    → HasReadIn n (record (document j x) { position = p }) t
read-to n j x p t hidden h =
    let d = document j x in reads-apart n (record d { position = p }) t (moved n d p t h) hidden

pub steps-went : (level : ℕ) (chunk : List ℕ) (i : Reader) (v : Tree) (j : Reader) (w : Tree) (n : ℕ)
    → Ready level chunk i v → i.shown ≡ false → Steps level chunk i v j w n
    → Advanced level chunk i v (record j { at = j.at + n }) w
steps-went level chunk i v j w n r hidden s = record {
  after = omega (arith, s.moves.still.2);
  within = omega (arith, s.moves.still.2, s.moves.within);
  same = (s.moves.still.0, s.moves.still.1);
  depth = s.moves.depth.0;
  low = s.moves.low;
  reads = record {
    goes = λ t outer at h.
        let x = filled outer w in
        let place : i.at + n ≡ j.at + n = omega (arith, s.moves.still.2) in
        let bytes : (t ++ take i.at chunk) ++ slice_range chunk i.at (i.at + n) ≡ t ++ take (j.at + n) chunk =
        append_assoc t (take i.at chunk) (slice_range chunk i.at (i.at + n))
        ∙ ap (λ u. t ++ u) (take-on chunk i.at n r.within ∙ ap (λ m. take m chunk) place) in
        let one = s.goes (t ++ take i.at chunk) outer at (taken-to chunk i (filled outer v) (t ++ take i.at chunk) hidden h) in
        let two = subst (λ m. HasTakenIn (ahead j chunk m) (document j x) ((t ++ take i.at chunk) ++ slice_range chunk i.at (i.at + n))) place one in
        let three = subst (λ u. HasTakenIn (ahead j chunk (j.at + n)) (document j x) u) bytes two in
        let size = length-append (t ++ take i.at chunk) (slice_range chunk i.at (i.at + n)) in
        let more = range-long chunk i.at n s.moves.within in
        record {
          read = read-to (ahead j chunk (j.at + n)) j x (j.base + (j.at + n)) (t ++ take (j.at + n) chunk) (s.moves.still.3 ∙ hidden) three;
          position = omega (arith, h.position, s.moves.still.1, s.moves.still.2, size, more, ap length bytes);
        };
  };
}

-- Where an allocation failed
pub stays-went : (level : ℕ) (chunk : List ℕ) (i : Reader) (v : Tree) (j : Reader) (w : Tree) → Ready level chunk i v
    → i.shown ≡ false → ReadsAsBefore level chunk i v j w → Advanced level chunk i v j w
stays-went level chunk i v j w r hidden s = record {
  after = omega (arith, s.still.2);
  within = omega (arith, s.still.2, r.within);
  same = (s.still.0, s.still.1);
  depth = omega (arith, s.depth, r.above);
  low = omega (arith, s.depth, r.low);
  reads = record {
    goes = λ t outer at h.
        let x = filled outer w in
        let u = t ++ take i.at chunk in
        let one = s.goes u outer at (taken-to chunk i (filled outer v) u hidden h) in
        let read = reads-apart (ahead j chunk j.at) (document j x) u (taken-any (ahead j chunk j.at) (document j x) u one) (s.still.3 ∙ hidden) in
        record {
          read = subst (λ m. HasReadIn (ahead j chunk j.at) (document j x) (t ++ take m chunk)) (sym s.still.2) read;
          position = omega (arith, h.position, s.still.1, s.still.2, ap (λ m. length (t ++ take m chunk)) s.still.2);
        };
  };
}

-- The root at level 0 is the outermost container at level 1.
pub outermost : (chunk : List ℕ) (i : Reader) (v : Tree) (j : Reader) (w : Tree) → Advanced 1 chunk i v j w → Advanced 0 chunk i v j w
outermost chunk i v j w a = record {
  after = a.after;
  within = a.within;
  same = a.same;
  depth = omega arith;
  low = a.low;
  reads = record { goes = λ t outer at h. a.reads.goes t outer at h };
}

pub outermost-ready : (chunk : List ℕ) (i : Reader) (v : Tree) → Ready 0 chunk i v → 0 < i.depth → Ready 1 chunk i v
outermost-ready chunk i v r some = record {
  above = omega (arith, some);
  low = r.low;
  within = r.within;
  room = r.room;
  read = (r.read.0, r.read.1, r.read.2, r.read.3);
}

pub outermost-refuses : (chunk : List ℕ) (i : Reader) (v : Tree) (j : Reader) → Refuses 1 chunk i v j → Refuses 0 chunk i v j
outermost-refuses chunk i v j a = record { goes = λ t outer at h. a.goes t outer at h; free = a.free }

-- Before a chunk
pub chunk-begun : (chunk : List ℕ) (i : Reader) (v : Tree) (t : List ℕ) → HasArrived (document i v) t → i.at ≡ 0
    → HasReadTo chunk i v (t ++ take i.at chunk)
chunk-begun chunk i v t h start =
    let same : t ≡ t ++ take i.at chunk = sym (ap (λ n. t ++ take n chunk) start ∙ append-nil t) in
    subst (HasReadTo chunk i v) same
    (record { read = read-any (ahead i chunk i.at) (document i v) t h.read; position = h.position })

pub ready-start : (chunk : List ℕ) (i : Reader) (v : Tree) (t : List ℕ) → HasArrived (document i v) t → i.at ≡ 0
    → i.depth ≤ 201 → i.base + length chunk < 2 ^ 64 → Ready 0 chunk i v
ready-start chunk i v t h start low room = record {
  above = omega arith;
  low = low;
  within = omega (arith, start);
  room = room;
  read = (t, [], refl, chunk-begun chunk i v t h start);
}

-- What was read to the end of a chunk, or to where an allocation failed, has arrived.
pub arrived-free : (chunk : List ℕ) (j : Reader) (w : Tree) (t : List ℕ) → ahead j chunk j.at ≡ any_bytes → IsComplete j
    → HasReadTo chunk j w t → HasArrived (document j w) t
arrived-free chunk j w t free full h = record {
  read = subst (λ n. HasReadIn n (document j w) t) free h.read;
  position = h.position;
  full = full;
}

ahead-end : (k : Token) (a : Awaits) (chunk : List ℕ) (i : ℕ) → length chunk ≤ i → ahead_as k a chunk i ≡ any_bytes
ahead-end token.Nothing awaits.Comma chunk i past = ap next_of (slice_get_past chunk i past)
ahead-end token.Nothing awaits.Nothing chunk i past = ap next_of (slice_get_past chunk i past)
ahead-end k a chunk i past = refl

pub arrived-all : (chunk : List ℕ) (j : Reader) (w : Tree) (t : List ℕ) → IsComplete j → length chunk ≤ j.at
    → j.at ≤ length chunk
    → HasReadTo chunk j w (t ++ take j.at chunk) → HasArrived (document j w) (t ++ chunk)
arrived-all chunk j w t full past within h =
    let all : take j.at chunk ≡ chunk = take_all j.at chunk past in
    subst (λ u. HasArrived (document j w) (t ++ u)) all
    (arrived-free chunk j w (t ++ take j.at chunk) (ahead-end j.token j.awaits chunk j.at past) full h)

-- From the start of the chunk
pub went-from : (chunk : List ℕ) (i : Reader) (v : Tree) (j : Reader) (w : Tree) → Advanced 0 chunk i v j w → i.at ≡ 0
    → (t : List ℕ) → HasArrived (document i v) t → HasReadTo chunk j w (t ++ take j.at chunk)
went-from chunk i v j w a start t h = a.reads.goes t [] refl (chunk-begun chunk i v t h start)
