use Rattle.jiter_scan.proofs.Words.{◌≡◌, ◌&&◌, false, get_or, not, ap, refl, sym, ◌∙◌, arith, nat_tests, is_plain}
use Rattle.jiter_scan.proofs.Words.{is_ascii, is_stop, and-true}
use Rattle.jiter_scan.proofs.Runs.{run_end-passing, run_end-past}
use Rattle.jiter_scan.proofs.PlainRuns.{ascii_from-byte, ascii_from-stop, still-ascii}
use Rattle.jiter_scan.proofs.bytes.simd.scan_bytes.Goals as goal

pub loop-i-preserved : goal.loop-i-preserved
loop-i-preserved c =
    let t = c.args.bytes.now in
    let i = c.loop-i.i in
    let goes : is_stop (get_or t i 0) ≡ false =
    grind (arith, nat_tests, c.if-byte-eq34.false, c.if-byte-eq92.false, c.if-byte-lt32.false) in
    let run = run_end-passing is_plain t i c.loop-i-test.true (ap not goes) in
    record {
      stop = omega arith;
      ascii = still-ascii _ c.loop-i.clean (is_ascii (get_or t i 0)) _ _ _ c.loop-i.invariant.ascii
          (ascii_from-byte t i c.loop-i-test.true goes) refl;
      within = omega arith;
    }

pub returns-clause-stop : goal.returns-clause-stop
returns-clause-stop c = omega (arith, run_end-past is_plain c.args.bytes.now c.loop-i.i c.loop-i-test.false)

pub returns-clause-ascii : goal.returns-clause-ascii
returns-clause-ascii c =
    let here = run_end-past is_plain c.args.bytes.now c.loop-i.i c.loop-i-test.false in
    sym (c.loop-i.invariant.ascii ∙ ap (λ b. c.loop-i.clean && b) (ascii_from-stop c.args.bytes.now c.loop-i.i here)
    ∙ and-true c.loop-i.clean)
