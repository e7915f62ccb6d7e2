use Rattle.jiter_incremental.proofs.Words.{◌-◌, ◌<◌, ◌∙◌, ap, arith, refl, sym, vec_len, with_item, view, Array, Object}
use Rattle.std.proofs.lemmas.Result.{on_err_weaker}
use Rattle.jiter_incremental.proofs.Words.{◌++◌, ◌≡◌, take, subst, ahead, Advanced, Ready, Refuses, Reader}
use Rattle.jiter_incremental.proofs.Leading.{above, below, last-part, ready-then, refuses-above, refuses-then}
use Rattle.jiter_incremental.proofs.Leading.{outermost, outermost-ready, outermost-refuses, went-none, went-then}
use Rattle.jiter_incremental.proofs.Over.{refuses-scalar}
use Rattle.jiter_incremental.proofs.Showing.{paused-further, refuses-as, went-as}
use Rattle.jiter_incremental.proofs.Documents.Blanks.{if-refused}
use Rattle.jiter_incremental.proofs.Slots.{array-place, array-swaps, object-place, object-swaps, out-array, out-object}
use Rattle.jiter_incremental.proofs.reader.Reader.+read.Goals as goal

pub inside-overflow_sub-last : goal.inside-overflow_sub-last
inside-overflow_sub-last t c =
    let some : 0 < c.args.level = omega (arith, c.if-level-eq0.false) in
    let p = c.requires.part some in
    omega (arith, c.len-last.ensures, ap vec_len c.in-Array.items-is, c.in-Array.items.ok.0, (array-place c.args.slot.now c.in-Array.items _ p.frame p.part c.len-last.result c.in-Array.is c.in-Array.items-is c.len-last.ensures p.is).1)

pub inside-index_mut-requires : goal.inside-index_mut-requires
inside-index_mut-requires t c =
    let some : 0 < c.args.level = omega (arith, c.if-level-eq0.false) in
    let p = c.requires.part some in
    (array-place c.args.slot.now c.in-Array.items _ p.frame p.part c.len-last.result c.in-Array.is c.in-Array.items-is c.len-last.ensures p.is).0

pub inside-parts-requires-in-Array : goal.inside-parts-requires-in-Array
inside-parts-requires-in-Array t c =
    let some : 0 < c.args.level = omega (arith, c.if-level-eq0.false) in
    let p = c.requires.part some in
    let s = array-swaps c.args.slot.now c.in-Array.items _ c.len-last.result c.index_mut.result.now c.in-Array.is c.in-Array.items-is
    c.len-last.ensures c.index_mut.ensures.value p.frame p.part p.is in
    let ready = below c.args.level c.args.chunk.now c.args.self.now (view c.args.slot.now) p.frame (view c.index_mut.result.now) c.requires.ready
    some c.requires.deeper s.was in
    (omega (arith, c.decreases, c.requires.deeper), (ready, (c.requires.unset, (c.requires.complete, c.requires.inside))))

pub inside-returns-in-Array-clause-went : goal.inside-returns-in-Array-clause-went
inside-returns-in-Array-clause-went t c =
    let some : 0 < c.args.level = omega (arith, c.if-level-eq0.false) in
    let p = c.requires.part some in
    let v = c.in-Array.items in
    let s = array-swaps (Array v) v _ c.len-last.result c.index_mut.result.now refl c.in-Array.items-is c.len-last.ensures
    c.index_mut.ensures.value p.frame p.part (sym (ap view c.in-Array.is) ∙ p.is) in
    let z = c.parts-in-Array.new.slot in
    let new = with_item v (c.len-last.result - 1) z in
    rw (c.in-Array.is, out-array v)
    (above c.args.level c.args.chunk.now c.args.self.now (view c.index_mut.result.now) c.parts-in-Array.new.self (view z) p.frame (view (Array v))
    (view (Array new)) some s.was (s.now z) c.parts-in-Array.ensures.went)

pub inside-returns-in-Array-clause-wanted : goal.inside-returns-in-Array-clause-wanted
inside-returns-in-Array-clause-wanted t c =
    let some : 0 < c.args.level = omega (arith, c.if-level-eq0.false) in
    let p = c.requires.part some in
    let s = array-swaps c.args.slot.now c.in-Array.items _ c.len-last.result c.index_mut.result.now c.in-Array.is c.in-Array.items-is
    c.len-last.ensures c.index_mut.ensures.value p.frame p.part p.is in
    on_err_weaker c.parts-in-Array.result
    (refuses-above c.args.level c.args.chunk.now c.args.self.now (view c.index_mut.result.now) c.parts-in-Array.new.self p.frame (view c.args.slot.now)
    some s.was)
    c.parts-in-Array.ensures.wanted

pub inside-overflow_sub-last-in-Object : goal.inside-overflow_sub-last-in-Object
inside-overflow_sub-last-in-Object t c =
    let some : 0 < c.args.level = omega (arith, c.if-level-eq0.false) in
    let p = c.requires.part some in
    omega (arith, c.len-last-in-Object.ensures, ap vec_len c.in-Object.members-is, c.in-Object.members.ok.0, (object-place c.args.slot.now c.in-Object.members _ p.frame p.part c.len-last-in-Object.result c.in-Object.is c.in-Object.members-is c.len-last-in-Object.ensures p.is).1)

pub inside-index_mut-requires-in-Object : goal.inside-index_mut-requires-in-Object
inside-index_mut-requires-in-Object t c =
    let some : 0 < c.args.level = omega (arith, c.if-level-eq0.false) in
    let p = c.requires.part some in
    (object-place c.args.slot.now c.in-Object.members _ p.frame p.part c.len-last-in-Object.result c.in-Object.is c.in-Object.members-is c.len-last-in-Object.ensures p.is).0

pub inside-parts-requires-in-Object : goal.inside-parts-requires-in-Object
inside-parts-requires-in-Object t c =
    let some : 0 < c.args.level = omega (arith, c.if-level-eq0.false) in
    let p = c.requires.part some in
    let s = object-swaps c.args.slot.now c.in-Object.members _ c.len-last-in-Object.result c.index_mut-in-Object.result.now c.in-Object.is c.in-Object.members-is
    c.len-last-in-Object.ensures c.index_mut-in-Object.ensures.value p.frame p.part p.is in
    let ready = below c.args.level c.args.chunk.now c.args.self.now (view c.args.slot.now) p.frame (view c.index_mut-in-Object.result.now.1) c.requires.ready
    some c.requires.deeper s.was in
    (omega (arith, c.decreases, c.requires.deeper), (ready, (c.requires.unset, (c.requires.complete, c.requires.inside))))

pub inside-returns-in-Object-clause-went : goal.inside-returns-in-Object-clause-went
inside-returns-in-Object-clause-went t c =
    let some : 0 < c.args.level = omega (arith, c.if-level-eq0.false) in
    let p = c.requires.part some in
    let v = c.in-Object.members in
    let s = object-swaps (Object v) v _ c.len-last-in-Object.result c.index_mut-in-Object.result.now refl c.in-Object.members-is c.len-last-in-Object.ensures
    c.index_mut-in-Object.ensures.value p.frame p.part (sym (ap view c.in-Object.is) ∙ p.is) in
    let z = c.parts-in-Object.new.slot in
    let new = with_item v (c.len-last-in-Object.result - 1) (c.index_mut-in-Object.result.now.0, z) in
    rw (c.in-Object.is, out-object v)
    (above c.args.level c.args.chunk.now c.args.self.now (view c.index_mut-in-Object.result.now.1) c.parts-in-Object.new.self (view z) p.frame (view (Object v))
    (view (Object new)) some s.was (s.now z) c.parts-in-Object.ensures.went)

pub inside-returns-in-Object-clause-wanted : goal.inside-returns-in-Object-clause-wanted
inside-returns-in-Object-clause-wanted t c =
    let some : 0 < c.args.level = omega (arith, c.if-level-eq0.false) in
    let p = c.requires.part some in
    let s = object-swaps c.args.slot.now c.in-Object.members _ c.len-last-in-Object.result c.index_mut-in-Object.result.now c.in-Object.is c.in-Object.members-is
    c.len-last-in-Object.ensures c.index_mut-in-Object.ensures.value p.frame p.part p.is in
    on_err_weaker c.parts-in-Object.result
    (refuses-above c.args.level c.args.chunk.now c.args.self.now (view c.index_mut-in-Object.result.now.1) c.parts-in-Object.new.self p.frame (view c.args.slot.now)
    some s.was)
    c.parts-in-Object.ensures.wanted

pub read_on-part-requires-clause-ready : goal.read_on-part-requires-clause-ready
read_on-part-requires-clause-ready t c =
    ready-then c.args.level c.args.chunk.now c.args.self.now (view c.args.slot.now) c.loop-self.self (view c.loop-self.slot)
    c.requires.ready c.loop-self.invariant.went (omega (arith, c.loop-self-test.true))

pub read_on-inside-requires : goal.read_on-inside-requires
read_on-inside-requires t c =
    let level = c.args.level in
    let chunk = c.args.chunk.now in
    let j = c.loop-self.self in
    let w = view c.loop-self.slot in
    let so = c.loop-self.invariant in
    let deeper : level < j.depth = omega (arith, c.if-level-self-2.true) in
    let unset = so.calm c.loop-self-test.true (λ same. absurd (omega (arith, deeper, same))) in
    let ready = ready-then level chunk c.args.self.now (view c.args.slot.now) j w c.requires.ready so.went (omega (arith, deeper)) in (
      omega (arith, c.decreases, so.nearer c.loop-self-test.true),
      (
        ready,
        (
          deeper,
          (
            unset,
            (
              so.paused.complete deeper,
              (
                c.loop-self-test.true,
                λ some.
                    let l = last-part level chunk j w ready unset some deeper in record { frame = l.0; part = l.1; is = l.2 },
              ),
            ),
          ),
        ),
      ),
    )

pub read_on-returns-in_err-inside-clause-wanted : goal.read_on-returns-in_err-inside-clause-wanted
read_on-returns-in_err-inside-clause-wanted t c =
    if-refused c.from_residual.result
    (refuses-then c.args.level c.args.chunk.now c.args.self.now (view c.args.slot.now) c.loop-self.self
    (view c.loop-self.slot) c.inside.new.self c.loop-self.invariant.went c.in_err-inside.ensures.wanted)

pub read_on-returns-in_err-part-clause-wanted : goal.read_on-returns-in_err-part-clause-wanted
read_on-returns-in_err-part-clause-wanted t c =
    if-refused c.from_residual-in_err-part.result
    (refuses-then c.args.level c.args.chunk.now c.args.self.now (view c.args.slot.now) c.loop-self.self
    (view c.loop-self.slot) c.part.new.self c.loop-self.invariant.went c.in_err-part.ensures.wanted)

pub inside-parts-requires : goal.inside-parts-requires
inside-parts-requires t c = (
  omega (arith, c.decreases, c.requires.deeper, c.if-level-eq0.true),
  (
    outermost-ready c.args.chunk.now c.args.self.now (view c.args.slot.now)
        (subst (λ n. Ready n c.args.chunk.now c.args.self.now (view c.args.slot.now)) c.if-level-eq0.true c.requires.ready)
        (omega (arith, c.requires.deeper)),
    (c.requires.unset, (c.requires.complete, c.requires.inside)),
  ),
)

pub inside-returns-then-level-eq0-clause-went : goal.inside-returns-then-level-eq0-clause-went
inside-returns-then-level-eq0-clause-went t c =
    let chunk = c.args.chunk.now in
    let i = c.args.self.now in
    let v = view c.args.slot.now in
    let j = c.parts.new.self in
    let w = view c.parts.new.slot in
    subst (λ n. Advanced n chunk i v j w) (sym c.if-level-eq0.true) (outermost chunk i v j w c.parts.ensures.went)

pub inside-returns-then-level-eq0-clause-wanted : goal.inside-returns-then-level-eq0-clause-wanted
inside-returns-then-level-eq0-clause-wanted t c =
    let chunk = c.args.chunk.now in
    let i = c.args.self.now in
    let v = view c.args.slot.now in
    let j = c.parts.new.self in
    on_err_weaker c.parts.result
    (λ q. subst (λ n. Refuses n chunk i v j) (sym c.if-level-eq0.true) (outermost-refuses chunk i v j q))
    c.parts.ensures.wanted

pub inside-returns-then-level-eq0-clause-paused : goal.inside-returns-then-level-eq0-clause-paused
inside-returns-then-level-eq0-clause-paused t c =
    paused-further c.args.level c.parts.new.self c.parts.new.slot c.parts.ensures.complete
    (λ low. c.parts.ensures.ended (omega (arith, low, c.if-level-eq0.true)))

pub inside-returns-in-Array-clause-paused : goal.inside-returns-in-Array-clause-paused
inside-returns-in-Array-clause-paused t c =
    paused-further c.args.level c.parts-in-Array.new.self _ c.parts-in-Array.ensures.complete
    (λ low. c.parts-in-Array.ensures.ended (omega (arith, low)))

pub inside-returns-in-Object-clause-paused : goal.inside-returns-in-Object-clause-paused
inside-returns-in-Object-clause-paused t c =
    paused-further c.args.level c.parts-in-Object.new.self _ c.parts-in-Object.ensures.complete
    (λ low. c.parts-in-Object.ensures.ended (omega (arith, low)))

pub parts-hide-requires-clause-read : goal.parts-hide-requires-clause-read
parts-hide-requires-clause-read t c =
    let i = c.args.self.now in
    let chunk = c.args.chunk.now in
    let r = c.requires.ready.read in
    (ahead i chunk i.at, r.0 ++ take i.at chunk, r.1, r.2, r.3.read)

pub parts-read_on-read-requires : goal.parts-read_on-read-requires
parts-read_on-read-requires t c =
    let level = c.args.level in
    let chunk = c.args.chunk.now in
    let i = c.args.self.now in
    let v = view c.args.slot.now in
    let j = c.hide.new.self in
    let w = view c.hide.new.slot in
    let same = c.hide.ensures.same in
    let went = went-as level chunk i v i v j w (went-none level chunk i v c.requires.ready) c.hide.ensures.hides same in
    let depth : j.depth ≡ i.depth = ap (λ (r : Reader). r.depth) same in
    let place : j.at ≡ i.at = ap (λ (r : Reader). r.at) same in (
      omega (arith, c.decreases, depth, place),
      (
        ready-then level chunk i v j w c.requires.ready went (omega (arith, depth, c.requires.ready.above)),
        (ap (λ (r : Reader). r.fault) same ∙ c.requires.unset, c.in_ok-hide.ensures.paused),
      ),
    )

pub parts-show-requires-clause-read : goal.parts-show-requires-clause-read
parts-show-requires-clause-read t c =
    let level = c.args.level in
    let chunk = c.args.chunk.now in
    let i = c.args.self.now in
    let v = view c.args.slot.now in
    let j = c.hide.new.self in
    let w = view c.hide.new.slot in
    let k = c.read_on-read.new.self in
    let x = view c.read_on-read.new.slot in
    let hid = went-as level chunk i v i v j w (went-none level chunk i v c.requires.ready) c.hide.ensures.hides c.hide.ensures.same in
    let went = went-then level chunk i v j w k x hid c.read_on-read.ensures.went in
    let r = c.requires.ready.read in
    let q = went.reads.goes r.0 r.1 r.2 r.3 in
    (ahead k chunk k.at, r.0 ++ take k.at chunk, r.1, r.2, q.read)

pub parts-returns-clause-went : goal.parts-returns-clause-went
parts-returns-clause-went t c =
    let level = c.args.level in
    let chunk = c.args.chunk.now in
    let i = c.args.self.now in
    let v = view c.args.slot.now in
    let j = c.hide.new.self in
    let w = view c.hide.new.slot in
    let k = c.read_on-read.new.self in
    let x = view c.read_on-read.new.slot in
    let hid = went-as level chunk i v i v j w (went-none level chunk i v c.requires.ready) c.hide.ensures.hides c.hide.ensures.same in
    let went = went-then level chunk i v j w k x hid c.read_on-read.ensures.went in
    went-as level chunk i v k x c.show.new.self (view c.show.new.slot) went c.show.ensures.shows c.show.ensures.same

pub parts-returns-clause-wanted : goal.parts-returns-clause-wanted
parts-returns-clause-wanted t c =
    let level = c.args.level in
    let chunk = c.args.chunk.now in
    let i = c.args.self.now in
    let v = view c.args.slot.now in
    let j = c.hide.new.self in
    let w = view c.hide.new.slot in
    let k = c.read_on-read.new.self in
    let hid = went-as level chunk i v i v j w (went-none level chunk i v c.requires.ready) c.hide.ensures.hides c.hide.ensures.same in
    on_err_weaker c.read_on-read.result
    (λ q. refuses-as level chunk i v k c.show.new.self c.show.ensures.same (refuses-then level chunk i v j w k hid q))
    c.read_on-read.ensures.wanted

pub parts-returns-in_err-hide-clause-went : goal.parts-returns-in_err-hide-clause-went
parts-returns-in_err-hide-clause-went t c =
    let level = c.args.level in
    let chunk = c.args.chunk.now in
    let i = c.args.self.now in
    let v = view c.args.slot.now in
    went-as level chunk i v i v c.hide.new.self (view c.hide.new.slot) (went-none level chunk i v c.requires.ready)
    c.hide.ensures.hides c.hide.ensures.same

pub parts-returns-in_err-hide-clause-wanted : goal.parts-returns-in_err-hide-clause-wanted
parts-returns-in_err-hide-clause-wanted t c =
    let level = c.args.level in
    let chunk = c.args.chunk.now in
    let i = c.args.self.now in
    let v = view c.args.slot.now in
    let refused = c.in_err-hide.ensures.refused in
    if-refused c.from_residual.result
    (subst (Refuses level chunk i v) (sym refused.0)
    (refuses-scalar level chunk i v c.requires.inside c.requires.unset refused.1))
