use Rattle.jiter_steps.proofs.Words.{◌∙◌, true, false, arith}
use Rattle.jiter_steps.proofs.Calls.FastSkips.{run-leads, end-leads}
use Rattle.jiter_steps.proofs.skip.fast_after.Goals as goal

pub closing-preserved : goal.closing-preserved
closing-preserved c =
    let t = c.args.bytes.now in
    let o = c.args.nest.now.kinds in
    let l = c.closing in
    let p = c.fast_run-place in
    let few = l.invariant.few in
    let some = c.closing-test.true in
    record {
      place = (
        omega (arith, l.invariant.place.0, p.ensures.place.0, c.in-Some.ensures.within.0),
        c.in-Some.ensures.within.1,
      );
      few = omega (arith, few);
      same = λ names. l.invariant.same names
          ∙ run-leads names t o l.open few some l.end p.result.0 p.result.1 false c.if-more.false p.ensures.leads
          ∙ end-leads names t o l.open few some p.result.0 c.in-Some.after p.ensures.place.1 c.in-Some.ensures.value;
    }

pub returns-then-more-clause-leads : goal.returns-then-more-clause-leads
returns-then-more-clause-leads c = λ names.
    let l = c.closing in
    let p = c.fast_run-place in
    let run = run-leads names c.args.bytes.now c.args.nest.now.kinds l.open l.invariant.few c.closing-test.true l.end
    p.result.0 p.result.1 true c.if-more.true p.ensures.leads in
    (l.invariant.same names ∙ run.0, run.1)

pub returns-in-None-clause-leads : goal.returns-in-None-clause-leads
returns-in-None-clause-leads c = λ names.
    let l = c.closing in
    let p = c.fast_run-place in
    l.invariant.same names
    ∙ run-leads names c.args.bytes.now c.args.nest.now.kinds l.open l.invariant.few c.closing-test.true l.end p.result.0
    p.result.1 false c.if-more.false p.ensures.leads
