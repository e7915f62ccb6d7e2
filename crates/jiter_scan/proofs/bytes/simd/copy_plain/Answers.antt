use Rattle.jiter_scan.proofs.Words.{◌≡◌, ◌+◌, ◌-◌, ◌++◌, ◌&&◌, ◌∙◌, append_assoc, ap, arith, eqb, refl, sym, take}
use Rattle.jiter_scan.proofs.Words.{slice_range, count_trailing_zeros, is_plain, scan_stop}
use Rattle.jiter_scan.proofs.Chunks.{run_end-clear, run_end-near, run_end-stopped}
use Rattle.jiter_scan.proofs.PlainRuns.{IsAsciiTo-iff, ascii_from-clear, ascii_from-stopped, still-ascii}
use Rattle.jiter_scan.proofs.Runs.{run_end-ahead, run_end-within}
use Rattle.jiter_scan.proofs.Standing.{slice_range-split}
use Rattle.jiter_scan.proofs.Tapes.{copied-on}
use Rattle.jiter_scan.proofs.bytes.simd.copy_plain.Goals as goal

pub first_stop-stop-requires : goal.first_stop-stop-requires
first_stop-stop-requires c =
    let t = c.args.bytes.now in
    let l = c.loop-left in
    let p = c.put_block-found in
    let run = run_end-stopped is_plain t l.i 16 p.result.0 p.ensures.stops (omega arith) (omega arith) (omega arith) in
    omega (arith, run, run_end-within is_plain t l.i (omega (arith, l.invariant.within)))

pub returns-then-found-ne0 : goal.returns-then-found-ne0
returns-then-found-ne0 c =
    let t = c.args.bytes.now in
    let l = c.loop-left in
    let v = l.invariant in
    let p = c.put_block-found in
    let f = c.first_stop-stop in
    let n = count_trailing_zeros 64 p.result.0 in
    let run = run_end-stopped is_plain t l.i 16 p.result.0 p.ensures.stops (omega arith) (omega arith) (omega arith) in
    let near = run_end-near is_plain t l.i 16 p.result.0 p.ensures.stops (omega arith) (omega arith) in
    let low = ascii_from-stopped t l.i 16 p.result.0 p.result.1 p.ensures.stops p.ensures.highs
    (omega arith) (omega arith) (omega arith) in
    let stop : scan_stop t c.args.from ≡ l.i + n = omega (arith, v.stop, run) in
    let count : l.end + (f.result.0 - l.i) ≡ l.end + n = omega (arith, f.ensures.stop) in
    record {
      stop = f.ensures.stop ∙ sym stop;
      text = ap (λ e. take e p.new.buffer.items) count
          ∙ copied-on t c.args.buffer.now.items l.buffer.items p.new.buffer.items c.args.from l.i c.args.count l.end n
          v.above (omega arith) (omega arith) v.text p.ensures.text
          ∙ ap (λ e. take c.args.count c.args.buffer.now.items ++ slice_range t c.args.from e) (sym stop);
      room = omega arith;
      ascii = IsAsciiTo-iff t c.args.from _ f.result.1 (omega arith)
          (f.ensures.ascii ∙ ap (λ b. l.clean && b) (sym low) ∙ sym v.ascii);
    }

pub loop-left-preserved : goal.loop-left-preserved
loop-left-preserved c =
    let t = c.args.bytes.now in
    let l = c.loop-left in
    let v = l.invariant in
    let p = c.put_block-found in
    let run = run_end-clear is_plain t l.i 16 p.result.0 p.ensures.stops (omega arith) (omega arith) in
    let low = ascii_from-clear t l.i 16 p.result.0 p.result.1 p.ensures.stops p.ensures.highs (omega arith)
    (omega arith) in
    record {
      text = copied-on t c.args.buffer.now.items l.buffer.items p.new.buffer.items c.args.from l.i c.args.count l.end 16
          v.above (omega arith) (omega arith) v.text p.ensures.text;
      stop = omega (arith, v.stop, run);
      ascii = still-ascii _ l.clean (eqb p.result.1 0) _ _ _ v.ascii low refl;
      above = omega arith;
      within = omega arith;
      room = omega arith;
    }

pub returns : goal.returns
returns c =
    let t = c.args.bytes.now in
    let l = c.loop-left in
    let v = l.invariant in
    let s = c.scan_far-stop in
    let put = c.in_ok-after.ensures in
    record {
      stop = s.ensures.stop ∙ sym v.stop;
      text = put.text
          ∙ ap (λ w. w ++ slice_range t l.i s.result.0) v.text
          ∙ append_assoc _ (slice_range t c.args.from l.i) (slice_range t l.i s.result.0)
          ∙ ap (λ w. take c.args.count c.args.buffer.now.items ++ w)
          (sym (slice_range-split t c.args.from l.i v.above s.result.0
          (omega (arith, s.ensures.stop, run_end-ahead is_plain t l.i))))
          ∙ ap (λ j. take c.args.count c.args.buffer.now.items ++ slice_range t c.args.from j)
          (s.ensures.stop ∙ sym v.stop);
      room = omega (arith, put.room);
      ascii = IsAsciiTo-iff t c.args.from (scan_stop t c.args.from) s.result.1 refl (s.ensures.ascii ∙ sym v.ascii);
    }
