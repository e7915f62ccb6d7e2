use Rattle.jiter_steps.proofs.Words.{◌∙◌, Bool, refl, sym, ap, true, false, arith, only_ends, value_from, open_frames}
use Rattle.jiter_steps.proofs.Calls.FastSkips.{plain-passed, continues-told}
use Rattle.jiter_steps.proofs.Calls.Skipping.{length-open_frames}
use Rattle.jiter_steps.proofs.skip.fast_turns.Goals as goal

pub turns-init : goal.turns-init
turns-init c = record { place = (omega arith, c.requires); few = c.args.nest.now.within; same = λ names. refl }

pub returns-then-not-more-clause-leads : goal.returns-then-not-more-clause-leads
returns-then-not-more-clause-leads c = λ names.
    let t = c.args.bytes.now in
    let l = c.turns in
    let nest = c.fast_open.new.nest in
    let r = c.fast_after-next.result in
    let e = c.in-Some-fast_value_end in
    l.invariant.same names
    ∙ ap (λ n. value_from (only_ends names) t (open_frames n.kinds l.depth) l.at)
    (sym (c.in_default.ensures.same refl))
    ∙ plain-passed names t (open_frames nest.kinds l.depth) l.at e.end
    (omega (arith, length-open_frames nest.kinds l.depth, l.invariant.few)) e.ensures.value
    ∙ continues-told names t (open_frames nest.kinds r.1) r.2 false r.0 _ c.if-not-more.true
    (c.fast_after-next.ensures.leads names)

pub turns-preserved : goal.turns-preserved
turns-preserved c =
    let t = c.args.bytes.now in
    let l = c.turns in
    let nest = c.fast_open.new.nest in
    let a = c.fast_after-next in
    let e = c.in-Some-fast_value_end in
    let told = λ (names : Bool). continues-told names t (open_frames nest.kinds a.result.1) a.result.2 true a.result.0 _
    c.if-not-more.false (a.ensures.leads names) in
    record {
      place = (omega (arith, l.invariant.place.0, a.ensures.place.0, e.ensures.within.0), (told false).1);
      few = a.ensures.few;
      same = λ names. l.invariant.same names
          ∙ ap (λ n. value_from (only_ends names) t (open_frames n.kinds l.depth) l.at)
          (sym (c.in_default.ensures.same refl))
          ∙ plain-passed names t (open_frames nest.kinds l.depth) l.at e.end
          (omega (arith, length-open_frames nest.kinds l.depth, l.invariant.few)) e.ensures.value
          ∙ (told names).0;
    }
