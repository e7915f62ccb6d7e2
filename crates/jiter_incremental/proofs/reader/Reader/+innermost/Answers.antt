use Rattle.jiter_incremental.proofs.Words.{◌-◌, ◌<◌, ◌∙◌, ap, arith, refl, sym, vec_len, with_item, view, Array, Object}
use Rattle.std.proofs.lemmas.Result.{on_err_weaker}
use Rattle.jiter_incremental.proofs.Innermost.{none-other}
use Rattle.jiter_incremental.proofs.Leading.{above, below, last-part, refuses-above}
use Rattle.jiter_incremental.proofs.Slots.{array-place, array-swaps, object-place, object-swaps, out-array, out-object}
use Rattle.jiter_incremental.proofs.reader.Reader.+innermost.Goals as goal

pub overflow_sub-last : goal.overflow_sub-last
overflow_sub-last t c =
    let r = c.requires in
    let deeper : c.args.level < c.args.self.now.depth = omega (arith, r.ready.above, c.if-level-self.false) in
    let p = last-part c.args.level c.args.chunk.now c.args.self.now (view c.args.slot.now) r.ready r.unset r.some deeper in
    omega (arith, c.len-last.ensures, ap vec_len c.in-Array.items-is, c.in-Array.items.ok.0, (array-place c.args.slot.now c.in-Array.items _ p.0 p.1 c.len-last.result c.in-Array.is c.in-Array.items-is c.len-last.ensures p.2).1)

pub index_mut-requires : goal.index_mut-requires
index_mut-requires t c =
    let r = c.requires in
    let deeper : c.args.level < c.args.self.now.depth = omega (arith, r.ready.above, c.if-level-self.false) in
    let p = last-part c.args.level c.args.chunk.now c.args.self.now (view c.args.slot.now) r.ready r.unset r.some deeper in
    (array-place c.args.slot.now c.in-Array.items _ p.0 p.1 c.len-last.result c.in-Array.is c.in-Array.items-is c.len-last.ensures p.2).0

pub innermost-requires : goal.innermost-requires
innermost-requires t c =
    let r = c.requires in
    let level = c.args.level in
    let i = c.args.self.now in
    let deeper : level < i.depth = omega (arith, r.ready.above, c.if-level-self.false) in
    let p = last-part level c.args.chunk.now i (view c.args.slot.now) r.ready r.unset r.some deeper in
    let s = array-swaps c.args.slot.now c.in-Array.items _ c.len-last.result c.index_mut.result.now c.in-Array.is c.in-Array.items-is
    c.len-last.ensures c.index_mut.ensures.value p.0 p.1 p.2 in
    let ready = below level c.args.chunk.now i (view c.args.slot.now) p.0 (view c.index_mut.result.now) r.ready r.some deeper s.was in
    (omega (arith, deeper), (ready, (omega arith, (r.unset, (r.complete, r.inside)))))

pub returns-in-Array-clause-went : goal.returns-in-Array-clause-went
returns-in-Array-clause-went t c =
    let r = c.requires in
    let level = c.args.level in
    let chunk = c.args.chunk.now in
    let i = c.args.self.now in
    let deeper : level < i.depth = omega (arith, r.ready.above, c.if-level-self.false) in
    let p = last-part level chunk i (view c.args.slot.now) r.ready r.unset r.some deeper in
    let v = c.in-Array.items in
    let s = array-swaps (Array v) v _ c.len-last.result c.index_mut.result.now refl c.in-Array.items-is c.len-last.ensures
    c.index_mut.ensures.value p.0 p.1 (sym (ap view c.in-Array.is) ∙ p.2) in
    let z = c.innermost.new.slot in
    let new = with_item v (c.len-last.result - 1) z in
    rw (c.in-Array.is, out-array v)
    (above level chunk i (view c.index_mut.result.now) c.innermost.new.self (view z) p.0 (view (Array v))
    (view (Array new)) r.some s.was (s.now z) c.innermost.ensures.went)

pub returns-in-Array-clause-wanted : goal.returns-in-Array-clause-wanted
returns-in-Array-clause-wanted t c =
    let r = c.requires in
    let level = c.args.level in
    let chunk = c.args.chunk.now in
    let i = c.args.self.now in
    let deeper : level < i.depth = omega (arith, r.ready.above, c.if-level-self.false) in
    let p = last-part level chunk i (view c.args.slot.now) r.ready r.unset r.some deeper in
    let s = array-swaps c.args.slot.now c.in-Array.items _ c.len-last.result c.index_mut.result.now c.in-Array.is c.in-Array.items-is
    c.len-last.ensures c.index_mut.ensures.value p.0 p.1 p.2 in
    on_err_weaker c.innermost.result
    (refuses-above level chunk i (view c.index_mut.result.now) c.innermost.new.self p.0 (view c.args.slot.now) r.some s.was)
    c.innermost.ensures.wanted

pub overflow_sub-last-in-Object : goal.overflow_sub-last-in-Object
overflow_sub-last-in-Object t c =
    let r = c.requires in
    let deeper : c.args.level < c.args.self.now.depth = omega (arith, r.ready.above, c.if-level-self.false) in
    let p = last-part c.args.level c.args.chunk.now c.args.self.now (view c.args.slot.now) r.ready r.unset r.some deeper in
    omega (arith, c.len-last-in-Object.ensures, ap vec_len c.in-Object.members-is, c.in-Object.members.ok.0, (object-place c.args.slot.now c.in-Object.members _ p.0 p.1 c.len-last-in-Object.result c.in-Object.is c.in-Object.members-is c.len-last-in-Object.ensures p.2).1)

pub index_mut-requires-in-Object : goal.index_mut-requires-in-Object
index_mut-requires-in-Object t c =
    let r = c.requires in
    let deeper : c.args.level < c.args.self.now.depth = omega (arith, r.ready.above, c.if-level-self.false) in
    let p = last-part c.args.level c.args.chunk.now c.args.self.now (view c.args.slot.now) r.ready r.unset r.some deeper in
    (object-place c.args.slot.now c.in-Object.members _ p.0 p.1 c.len-last-in-Object.result c.in-Object.is c.in-Object.members-is c.len-last-in-Object.ensures p.2).0

pub innermost-requires-in-Object : goal.innermost-requires-in-Object
innermost-requires-in-Object t c =
    let r = c.requires in
    let level = c.args.level in
    let i = c.args.self.now in
    let deeper : level < i.depth = omega (arith, r.ready.above, c.if-level-self.false) in
    let p = last-part level c.args.chunk.now i (view c.args.slot.now) r.ready r.unset r.some deeper in
    let s = object-swaps c.args.slot.now c.in-Object.members _ c.len-last-in-Object.result c.index_mut-in-Object.result.now c.in-Object.is c.in-Object.members-is
    c.len-last-in-Object.ensures c.index_mut-in-Object.ensures.value p.0 p.1 p.2 in
    let ready = below level c.args.chunk.now i (view c.args.slot.now) p.0 (view c.index_mut-in-Object.result.now.1) r.ready r.some deeper s.was in
    (omega (arith, deeper), (ready, (omega arith, (r.unset, (r.complete, r.inside)))))

pub returns-in-Object-clause-went : goal.returns-in-Object-clause-went
returns-in-Object-clause-went t c =
    let r = c.requires in
    let level = c.args.level in
    let chunk = c.args.chunk.now in
    let i = c.args.self.now in
    let deeper : level < i.depth = omega (arith, r.ready.above, c.if-level-self.false) in
    let p = last-part level chunk i (view c.args.slot.now) r.ready r.unset r.some deeper in
    let v = c.in-Object.members in
    let s = object-swaps (Object v) v _ c.len-last-in-Object.result c.index_mut-in-Object.result.now refl c.in-Object.members-is c.len-last-in-Object.ensures
    c.index_mut-in-Object.ensures.value p.0 p.1 (sym (ap view c.in-Object.is) ∙ p.2) in
    let z = c.innermost-in-Object.new.slot in
    let new = with_item v (c.len-last-in-Object.result - 1) (c.index_mut-in-Object.result.now.0, z) in
    rw (c.in-Object.is, out-object v)
    (above level chunk i (view c.index_mut-in-Object.result.now.1) c.innermost-in-Object.new.self (view z) p.0 (view (Object v))
    (view (Object new)) r.some s.was (s.now z) c.innermost-in-Object.ensures.went)

pub returns-in-Object-clause-wanted : goal.returns-in-Object-clause-wanted
returns-in-Object-clause-wanted t c =
    let r = c.requires in
    let level = c.args.level in
    let chunk = c.args.chunk.now in
    let i = c.args.self.now in
    let deeper : level < i.depth = omega (arith, r.ready.above, c.if-level-self.false) in
    let p = last-part level chunk i (view c.args.slot.now) r.ready r.unset r.some deeper in
    let s = object-swaps c.args.slot.now c.in-Object.members _ c.len-last-in-Object.result c.index_mut-in-Object.result.now c.in-Object.is c.in-Object.members-is
    c.len-last-in-Object.ensures c.index_mut-in-Object.ensures.value p.0 p.1 p.2 in
    on_err_weaker c.innermost-in-Object.result
    (refuses-above level chunk i (view c.index_mut-in-Object.result.now.1) c.innermost-in-Object.new.self p.0 (view c.args.slot.now) r.some s.was)
    c.innermost-in-Object.ensures.wanted

pub unreachable-requires : goal.unreachable-requires
unreachable-requires t c =
    let r = c.requires in
    let deeper : c.args.level < c.args.self.now.depth = omega (arith, r.ready.above, c.if-level-self.false) in
    let p = last-part c.args.level c.args.chunk.now c.args.self.now (view c.args.slot.now) r.ready r.unset r.some deeper in
    none-other c.args.slot.now p.0 p.1 p.2 c.in_default.not-Array c.in_default.not-Object
