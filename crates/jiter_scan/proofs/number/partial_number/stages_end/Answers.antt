use Rattle.jiter_scan.proofs.NumberParts.{goes_next}
use Rattle.jiter_scan.proofs.number.partial_number.stages_end.Goals as goal

pub loop-end-preserved : goal.loop-end-preserved
loop-end-preserved c =
    goes_next c.args.stage c.loop-end.reached c.in-Taken.next c.run_end.result.0 c.args.bytes.now c.args.at
    c.loop-end.end c.run_end.result.1 c.loop-end.invariant c.loop-end-test.true c.in-Taken.ensures.leads
    c.in-Taken.ensures.fits c.run_end.ensures
