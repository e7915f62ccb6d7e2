use Rattle.jiter_scan.proofs.Words.{refl, ◌&&◌, eqb, ap, sym, ◌∙◌, arith, is_plain}
use Rattle.jiter_scan.proofs.Chunks.{run_end-clear, run_end-stopped}
use Rattle.jiter_scan.proofs.Runs.{run_end-within}
use Rattle.jiter_scan.proofs.PlainRuns.{ascii_from-clear, ascii_from-stopped, still-ascii}
use Rattle.jiter_scan.proofs.bytes.simd.scan_blocks.Goals as goal

pub first_stop-requires : goal.first_stop-requires
first_stop-requires c =
    let t = c.args.bytes.now in
    let i = c.loop-i.i in
    let found = c.stops-found in
    let run = run_end-stopped is_plain t i 16 found.result found.ensures (omega arith) (omega arith) (omega arith) in
    omega (arith, run_end-within is_plain t i c.loop-i.invariant.within)

pub returns-then-found-ne0 : goal.returns-then-found-ne0
returns-then-found-ne0 c =
    let t = c.args.bytes.now in
    let i = c.loop-i.i in
    let found = c.stops-found in
    let run = run_end-stopped is_plain t i 16 found.result found.ensures (omega arith) (omega arith) (omega arith) in
    let low = ascii_from-stopped t i 16 found.result c.highs-high.result found.ensures c.highs-high.ensures
    (omega arith) (omega arith) (omega arith) in
    record {
      stop = omega arith;
      ascii = c.first_stop.ensures.ascii ∙ ap (λ b. c.loop-i.clean && b) (sym low) ∙ sym c.loop-i.invariant.ascii;
    }

pub loop-i-preserved : goal.loop-i-preserved
loop-i-preserved c =
    let t = c.args.bytes.now in
    let i = c.loop-i.i in
    let found = c.stops-found in
    let high = c.highs-high in
    let run = run_end-clear is_plain t i 16 found.result found.ensures (omega arith) (omega arith) in
    let low = ascii_from-clear t i 16 found.result high.result found.ensures high.ensures (omega arith) (omega arith) in
    record {
      stop = omega arith;
      ascii = still-ascii _ c.loop-i.clean (eqb high.result 0) _ _ _ c.loop-i.invariant.ascii low refl;
      within = omega arith;
    }

pub loop-i-preserved-then-i-far : goal.loop-i-preserved-then-i-far
loop-i-preserved-then-i-far c =
    let t = c.args.bytes.now in
    let i = c.loop-i.i in
    let found = c.stops-found in
    let high = c.highs-high in
    let wide = c.scan_wide-end.ensures in
    let run = run_end-clear is_plain t i 16 found.result found.ensures (omega arith) (omega arith) in
    let low = ascii_from-clear t i 16 found.result high.result found.ensures high.ensures (omega arith) (omega arith) in
    record {
      stop = omega (arith, run, wide.stop, c.loop-i.invariant.stop);
      ascii = still-ascii _ c.loop-i.clean (eqb high.result 0) _ _ _ c.loop-i.invariant.ascii low refl
          ∙ wide.ascii;
      within = wide.within.1;
    }
