use Rattle.std.proofs.Common.{arith, take}
use Rattle.std.proofs.KnownBytes.{Appends-kept}
use Rattle.jiter_print.proofs.Writing.{prefix-more, prefix-within}
use Rattle.jiter_print.proofs.lines.write_line.Goals as goal
use Rattle.jiter_print.proofs.lines.write_line.Goals.{in-Ok, in-Err+else-ne}

pub loop-preserved : goal.loop-preserved
loop-preserved g c =
    let line = c.args.line.now in
    let held = c.loop.invariant in
    elim c.match-write.branch [
      | in-Ok w ↦ record {
        within =
            omega
            (arith, w.written-is, prefix-within line c.loop.written w.in-Ok.count held.within w.in-Ok.ensures.bound);
        prefix = rw w.written-is (prefix-more _ _ _ line c.loop.written w.in-Ok.count held.prefix w.in-Ok.ensures.bytes);
      }
      | in-Err+else-ne w ↦ record {
        within = omega (arith, w.written-is);
        prefix = rw w.written-is (Appends-kept _ _ _ (take c.loop.written line) held.prefix w.in-Err.ensures.bytes);
      }
    ]
