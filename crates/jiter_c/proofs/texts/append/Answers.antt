use Rattle.std.proofs.Common.{arith}
use Rattle.jiter_c.specs.Reports.{written}
use Rattle.jiter_c.proofs.Appending.{appends, full, to_the_end}
use Rattle.jiter_c.proofs.texts.append.Goals as goal

pub returns-then-count-out-clause-text : goal.returns-then-count-out-clause-text
returns-then-count-out-clause-text c =
    appends c.args.count c.args.text.now c.args.out.now _
    (to_the_end (written c.args.text.now) c.args.count c.args.out.now c.write_prefix.new.out (omega (arith, c.if-count-out.true)) c.write_prefix.ensures.text)

pub returns-clause-text : goal.returns-clause-text
returns-clause-text c = full c.args.count c.args.text.now c.args.out.now (omega (arith, c.if-count-out.false))
