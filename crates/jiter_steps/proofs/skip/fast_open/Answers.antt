use Rattle.jiter_steps.proofs.Words.{ap, arith, start_of}
use Rattle.jiter_steps.specs.declared.parse.ContainerKind.TheVariants as shape
use Rattle.jiter_steps.proofs.Calls.FastSkips.{plain-opens}
use Rattle.jiter_steps.proofs.skip.fast_open.Goals as goal

pub returns-in_ok-next-in-91-clause-leads : goal.returns-in_ok-next-in-91-clause-leads
returns-in_ok-next-in-91-clause-leads c = λ names.
    plain-opens names c.args.bytes.now shape.Array c.args.nest.now.kinds c.args.depth c.args.at _ c.requires.few
    (omega (arith, c.requires.few))
    (omega (arith, c.requires.room, c.requires.within)) (ap start_of c.in-91.is) c.in_ok-next-in-91.ensures.value

pub returns-in_ok-next-in-123-clause-leads : goal.returns-in_ok-next-in-123-clause-leads
returns-in_ok-next-in-123-clause-leads c = λ names.
    plain-opens names c.args.bytes.now shape.Object c.args.nest.now.kinds c.args.depth c.args.at _ c.requires.few
    (omega (arith, c.requires.few))
    (omega (arith, c.requires.room, c.requires.within)) (ap start_of c.in-123.is) c.in_ok-next-in-123.ensures.value
