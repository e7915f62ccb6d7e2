use Rattle.jiter_scan.proofs.Words.{◌≡◌, ◌+◌, ◌-◌, ◌/◌, ◌^◌, Bool, length, eqb, sym, ap, ◌∙◌, arith}
use Rattle.jiter_scan.proofs.Words.{true, false, ◌&&◌, refl, is_ascii, is_plain}
use Rattle.jiter_scan.proofs.Chunks.{last-bits, run_end-clear, run_end-stopped}
use Rattle.jiter_scan.proofs.Runs.{run_end-ahead, run_end-within}
use Rattle.jiter_scan.proofs.PlainRuns.{ascii_from-clear, ascii_from-stop, ascii_from-stopped}
use Rattle.jiter_scan.proofs.bytes.simd.scan_last.Goals as goal

pub first_stop-requires : goal.first_stop-requires
first_stop-requires c =
    let t = c.args.bytes.now in
    let i = c.args.from in
    let found = c.stops.result / 2 ^ (i - (length t - 16)) in
    let stops = last-bits is_plain t i c.stops.result (omega arith) (omega arith) (omega arith) c.stops.ensures in
    let run = run_end-stopped is_plain t i (length t - i) found stops (omega arith) (omega arith) (omega arith) in
    omega (arith, run, run_end-within is_plain t i (omega arith))

pub returns : goal.returns
returns c =
    let t = c.args.bytes.now in
    let i = c.args.from in
    let found = c.stops.result / 2 ^ (i - (length t - 16)) in
    let high = c.highs.result / 2 ^ (i - (length t - 16)) in
    let stops = last-bits is_plain t i c.stops.result (omega arith) (omega arith) (omega arith) c.stops.ensures in
    let highs = last-bits is_ascii t i c.highs.result (omega arith) (omega arith) (omega arith) c.highs.ensures in
    let run = run_end-stopped is_plain t i (length t - i) found stops (omega arith) (omega arith) (omega arith) in
    let inside = run_end-within is_plain t i (omega arith) in
    let low = ascii_from-stopped t i (length t - i) found high stops highs (omega arith) (omega arith) (omega arith) in
    record {
      stop = omega (arith, run);
      ascii = c.first_stop.ensures.ascii ∙ ap (λ b. c.args.ascii && b) (sym low);
    }

and-true : (b : Bool) → (b && true) ≡ b
and-true true = refl
and-true false = refl

pub returns-then-found-eq0 : goal.returns-then-found-eq0
returns-then-found-eq0 c =
    let t = c.args.bytes.now in
    let i = c.args.from in
    let n = length t - i in
    let found = c.stops.result / 2 ^ (i - (length t - 16)) in
    let high = c.highs.result / 2 ^ (i - (length t - 16)) in
    let stops = last-bits is_plain t i c.stops.result (omega arith) (omega arith) (omega arith) c.stops.ensures in
    let highs = last-bits is_ascii t i c.highs.result (omega arith) (omega arith) (omega arith) c.highs.ensures in
    let ahead = run_end-ahead is_plain t (i + n) in
    let end = run_end-within is_plain t (i + n) (omega arith) in
    let low = ascii_from-clear t i n found high stops highs (omega arith) (omega arith) in
    let after = ascii_from-stop t (i + n) (omega (arith, ahead, end)) in
    record {
      stop = omega (arith, run_end-clear is_plain t i n found stops (omega arith) (omega arith), ahead, end);
      ascii = ap (λ b. c.args.ascii && b) (sym (low ∙ ap (λ b. eqb high 0 && b) after ∙ and-true (eqb high 0)));
    }
