use Rattle.jiter_scan.proofs.Words.{◌+◌, sym, ap, ◌∙◌, arith, nat_le, le-leb, nat_tests, is_plain, scan_stop}
use Rattle.jiter_scan.proofs.Chunks.{run_end-clear, run_end-stopped}
use Rattle.jiter_scan.proofs.Runs.{run_end-ahead}
use Rattle.jiter_print.proofs.buffer.is_plain_to.Goals as goal

pub returns-then-found-ne0 : goal.returns-then-found-ne0
returns-then-found-ne0 c =
    let t = c.args.bytes.now in
    let at = c.loop-from in
    let found = c.stops-found in
    let run = run_end-stopped is_plain t at.i 16 found.result found.ensures (omega arith) (omega arith) (omega arith) in
    grind (arith, nat_tests, at.invariant.within)
    ∙ ap (nat_le c.args.to) (sym (at.invariant.same ∙ run))

pub returns-then-to-i-le16 : goal.returns-then-to-i-le16
returns-then-to-i-le16 c =
    let t = c.args.bytes.now in
    let at = c.loop-from in
    let found = c.stops-found in
    let run = run_end-clear is_plain t at.i 16 found.result found.ensures (omega arith) c.if-found-ne0.false in
    sym (le-leb c.args.to (scan_stop t c.args.from)
    (omega (arith, at.invariant.same, run, run_end-ahead is_plain t (at.i + 16))))

pub loop-from-preserved : goal.loop-from-preserved
loop-from-preserved c =
    let t = c.args.bytes.now in
    let at = c.loop-from in
    let found = c.stops-found in
    let run = run_end-clear is_plain t at.i 16 found.result found.ensures (omega arith) c.if-found-ne0.false in
    record { within = omega arith; same = at.invariant.same ∙ run }
