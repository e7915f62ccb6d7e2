use Rattle.jiter_scan.proofs.Words.{◌≡◌, ◌+◌, ◌≤◌, ◌∙◌, arith, length, ℕ, List, sym, count_trailing_zeros, is_plain}
use Rattle.jiter_scan.proofs.Words.{scan_stop}
use Rattle.jiter_scan.proofs.Chunks.{run_end-clear, run_end-stopped}
use Rattle.jiter_scan.proofs.Runs.{run_end-ahead, run_end-within}
use Rattle.jiter_scan.proofs.bytes.simd.string_stop.Goals as goal

within : (t : List ℕ) (i to : ℕ) → i ≤ length t → to ≡ scan_stop t i → (i ≤ to) × (to ≤ length t)
within t i to h stop = (omega (arith, stop, run_end-ahead is_plain t i), omega (arith, stop, run_end-within is_plain t i h))

pub returns-then-from-bytes-clause-within : goal.returns-then-from-bytes-clause-within
returns-then-from-bytes-clause-within c =
    within c.args.bytes.now c.args.from c.stop_far.result c.requires c.stop_far.ensures

pub returns-then-found-ne0 : goal.returns-then-found-ne0
returns-then-found-ne0 c =
    let t = c.args.bytes.now in
    let i = c.args.from in
    let found = c.stops-found in
    let run = run_end-stopped is_plain t i 16 found.result found.ensures (omega arith) (omega arith) (omega arith) in
    record {
      stop = sym run;
      within = within t i (i + count_trailing_zeros 64 found.result) c.requires (sym run);
    }

pub returns : goal.returns
returns c =
    let t = c.args.bytes.now in
    let i = c.args.from in
    let found = c.stops-found in
    let far = c.stop_far-2 in
    let run = run_end-clear is_plain t i 16 found.result found.ensures (omega arith) (omega arith) in
    let stop : far.result ≡ scan_stop t i = far.ensures ∙ sym run in
    record {
      stop = stop;
      within = within t i far.result c.requires stop;
    }
