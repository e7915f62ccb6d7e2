use Rattle.jiter_scan.proofs.Words.{◌≡◌, ◌+◌, ◌&&◌, ◌==◌, ap, sym, ◌∙◌, arith, is_plain, scan_stop, and-true}
use Rattle.jiter_scan.proofs.Chunks.{run_end-clear, run_end-stopped}
use Rattle.jiter_scan.proofs.Runs.{run_end-ahead, run_end-past, run_end-within}
use Rattle.jiter_scan.proofs.PlainRuns.{ascii_from-clear, ascii_from-stop, ascii_from-stopped, IsAsciiTo-iff}
use Rattle.jiter_scan.proofs.bytes.simd.scan_string.Goals as goal

pub first_stop-requires : goal.first_stop-requires
first_stop-requires c =
    let t = c.args.bytes.now in
    let i = c.args.from in
    let found = c.stops-found in
    let run = run_end-stopped is_plain t i 16 found.result found.ensures (omega arith) (omega arith) (omega arith) in
    omega (arith, run_end-within is_plain t i c.requires)

pub returns-then-found-ne0 : goal.returns-then-found-ne0
returns-then-found-ne0 c =
    let t = c.args.bytes.now in
    let i = c.args.from in
    let found = c.stops-found in
    let run = run_end-stopped is_plain t i 16 found.result found.ensures (omega arith) (omega arith) (omega arith) in
    let inside = run_end-within is_plain t i c.requires in
    let low = ascii_from-stopped t i 16 found.result c.highs-high.result found.ensures c.highs-high.ensures
    (omega arith) (omega arith) (omega arith) in
    record {
      stop = omega arith;
      within = (omega arith, omega arith);
      ascii = IsAsciiTo-iff t i _ c.first_stop.result.1 (omega arith) (c.first_stop.ensures.ascii ∙ sym low);
    }

pub returns-then-from-bytes-clause-ascii : goal.returns-then-from-bytes-clause-ascii
returns-then-from-bytes-clause-ascii c =
    let far = c.scan_far in
    IsAsciiTo-iff c.args.bytes.now c.args.from far.result.0 far.result.1 far.ensures.stop far.ensures.ascii

pub returns-then-from-bytes-2 : goal.returns-then-from-bytes-2
returns-then-from-bytes-2 c =
    let t = c.args.bytes.now in
    let i = c.args.from in
    let found = c.stops-found in
    let high = c.highs-high in
    let run = run_end-clear is_plain t i 16 found.result found.ensures (omega arith) (omega arith) in
    let here = run_end-past is_plain t (i + 16) (omega arith) in
    let low = ascii_from-clear t i 16 found.result high.result found.ensures high.ensures (omega arith) (omega arith) in
    let stop : i + 16 ≡ scan_stop t i = omega (arith, run, here) in
    record {
      stop = stop;
      within = (omega arith, omega arith);
      ascii = IsAsciiTo-iff t i (i + 16) _ stop
          (sym (low ∙ ap (λ b. (high.result == 0) && b) (ascii_from-stop t (i + 16) here) ∙ and-true (high.result == 0)));
    }

pub returns : goal.returns
returns c =
    let t = c.args.bytes.now in
    let i = c.args.from in
    let found = c.stops-found in
    let high = c.highs-high in
    let far = c.scan_far-2 in
    let run = run_end-clear is_plain t i 16 found.result found.ensures (omega arith) (omega arith) in
    let low = ascii_from-clear t i 16 found.result high.result found.ensures high.ensures (omega arith) (omega arith) in
    let stop : far.result.0 ≡ scan_stop t i = omega (arith, run, far.ensures.stop) in
    record {
      stop = stop;
      within = (
        omega (arith, far.ensures.stop, run_end-ahead is_plain t (i + 16)),
        omega (arith, far.ensures.stop, run_end-within is_plain t (i + 16) (omega arith)),
      );
      ascii = IsAsciiTo-iff t i _ far.result.1 stop (far.ensures.ascii ∙ sym low);
    }
