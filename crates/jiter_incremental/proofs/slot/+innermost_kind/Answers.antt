use Rattle.jiter_incremental.proofs.Words.{arith, refl, view}
use Rattle.jiter_incremental.proofs.Innermost.{none-other, outermost}
use Rattle.jiter_incremental.proofs.Slots.{array-place, array-swaps, object-place, object-swaps}
use Rattle.jiter_incremental.proofs.slot.+innermost_kind.Goals as goal

pub overflow_sub-len : goal.overflow_sub-len
overflow_sub-len t c =
    let r = c.requires in
    let o = outermost c.args.depth (view c.args.slot.now) r.0 r.1 r.2 c.if-depth-eq1.false r.3 r.4 in
    omega (arith, c.len.ensures, c.in-Array.items.ok.0, (array-place c.args.slot.now c.in-Array.items _ o.frame _ c.len.result c.in-Array.is refl c.len.ensures o.is).1)

pub index-requires : goal.index-requires
index-requires t c =
    let r = c.requires in
    let o = outermost c.args.depth (view c.args.slot.now) r.0 r.1 r.2 c.if-depth-eq1.false r.3 r.4 in
    (array-place c.args.slot.now c.in-Array.items _ o.frame _ c.len.result c.in-Array.is refl c.len.ensures o.is).0

pub innermost_kind-requires : goal.innermost_kind-requires
innermost_kind-requires t c =
    let r = c.requires in
    let o = outermost c.args.depth (view c.args.slot.now) r.0 r.1 r.2 c.if-depth-eq1.false r.3 r.4 in
    let s = array-swaps c.args.slot.now c.in-Array.items _ c.len.result c.index.result.now c.in-Array.is refl c.len.ensures
    c.index.ensures o.frame _ o.is in
    (omega (arith, r.3, o.deep), (r.0, r.1, o.others, o.deep, s.is))

pub overflow_sub-len-in-Object : goal.overflow_sub-len-in-Object
overflow_sub-len-in-Object t c =
    let r = c.requires in
    let o = outermost c.args.depth (view c.args.slot.now) r.0 r.1 r.2 c.if-depth-eq1.false r.3 r.4 in
    omega (arith, c.len-in-Object.ensures, c.in-Object.members.ok.0, (object-place c.args.slot.now c.in-Object.members _ o.frame _ c.len-in-Object.result c.in-Object.is refl c.len-in-Object.ensures o.is).1)

pub index-requires-in-Object : goal.index-requires-in-Object
index-requires-in-Object t c =
    let r = c.requires in
    let o = outermost c.args.depth (view c.args.slot.now) r.0 r.1 r.2 c.if-depth-eq1.false r.3 r.4 in
    (object-place c.args.slot.now c.in-Object.members _ o.frame _ c.len-in-Object.result c.in-Object.is refl c.len-in-Object.ensures o.is).0

pub innermost_kind-requires-in-Object : goal.innermost_kind-requires-in-Object
innermost_kind-requires-in-Object t c =
    let r = c.requires in
    let o = outermost c.args.depth (view c.args.slot.now) r.0 r.1 r.2 c.if-depth-eq1.false r.3 r.4 in
    let s = object-swaps c.args.slot.now c.in-Object.members _ c.len-in-Object.result c.index-in-Object.result.now c.in-Object.is refl c.len-in-Object.ensures
    c.index-in-Object.ensures o.frame _ o.is in
    (omega (arith, r.3, o.deep), (r.0, r.1, o.others, o.deep, s.is))

pub unreachable-requires : goal.unreachable-requires
unreachable-requires t c =
    let r = c.requires in
    let o = outermost c.args.depth (view c.args.slot.now) r.0 r.1 r.2 c.if-depth-eq1.false r.3 r.4 in
    none-other c.args.slot.now o.frame _ o.is c.in_default.not-Array c.in_default.not-Object

pub returns-in-Array : goal.returns-in-Array
returns-in-Array t c = λ h xs fs deep is.
    let o = outermost c.args.depth (view c.args.slot.now) h xs fs c.if-depth-eq1.false deep is in
    let s = array-swaps c.args.slot.now c.in-Array.items _ c.len.result c.index.result.now c.in-Array.is refl c.len.ensures
    c.index.ensures o.frame _ o.is in
    c.innermost_kind.ensures h xs o.others o.deep s.is

pub returns-in-Object : goal.returns-in-Object
returns-in-Object t c = λ h xs fs deep is.
    let o = outermost c.args.depth (view c.args.slot.now) h xs fs c.if-depth-eq1.false deep is in
    let s = object-swaps c.args.slot.now c.in-Object.members _ c.len-in-Object.result c.index-in-Object.result.now c.in-Object.is refl c.len-in-Object.ensures
    c.index-in-Object.ensures o.frame _ o.is in
    c.innermost_kind-in-Object.ensures h xs o.others o.deep s.is
