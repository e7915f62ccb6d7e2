use Rattle.jiter_scan.proofs.Words.{◌∙◌, ◌+◌, ◌-◌, ◌/◌, ◌^◌, length, sym, arith, is_digit}
use Rattle.jiter_scan.proofs.Chunks.{last-bits, run_end-clear, run_end-stopped}
use Rattle.jiter_scan.proofs.Runs.{run_end-ahead, run_end-passing, run_end-stopping, run_end-past, run_end-within}
use Rattle.jiter_scan.proofs.bytes.decimal.digit_run_end.Goals as goal

pub returns-then-others-ne0 : goal.returns-then-others-ne0
returns-then-others-ne0 c =
    let t = c.args.bytes.now in
    let i = c.chunks.i in
    let others = c.no_digits-others in
    let run = run_end-stopped is_digit t i 16 others.result others.ensures (omega arith) (omega arith) (omega arith) in
    let within = run_end-within is_digit t i c.chunks.invariant.within in
    record { value = omega arith; place = (omega arith, omega arith) }

pub chunks-preserved : goal.chunks-preserved
chunks-preserved c =
    let others = c.no_digits-others in
    let run = run_end-clear is_digit c.args.bytes.now c.chunks.i 16 others.result others.ensures (omega arith)
    (omega arith) in
    record { above = omega arith; within = omega arith; run = omega arith }

pub bytes-preserved : goal.bytes-preserved
bytes-preserved c =
    let here = run_end-passing is_digit c.args.bytes.now c.bytes.i c.bytes-test.true
    (sym c.is_digit.ensures ∙ c.if-is_digit.true) in
    record { above = omega arith; within = omega arith; run = omega arith }

pub returns-else-is_digit-clause-value : goal.returns-else-is_digit-clause-value
returns-else-is_digit-clause-value c =
    let here = run_end-stopping is_digit c.args.bytes.now c.bytes.i c.bytes-test.true
    (sym c.is_digit.ensures ∙ c.if-is_digit.false) in
    omega arith

pub returns-after-bytes-clause-value : goal.returns-after-bytes-clause-value
returns-after-bytes-clause-value c = omega (arith, run_end-past is_digit c.args.bytes.now c.bytes.i c.bytes-test.false)

pub returns-then-others-eq0 : goal.returns-then-others-eq0
returns-then-others-eq0 c =
    let t = c.args.bytes.now in
    let i = c.chunks.i in
    let n = length t - i in
    let others = c.no_digits.result / 2 ^ (i - (length t - 16)) in
    let bits = last-bits is_digit t i c.no_digits.result (omega arith) (omega arith) (omega arith) c.no_digits.ensures in
    let run = run_end-clear is_digit t i n others bits (omega arith) (omega arith) in
    let ahead = run_end-ahead is_digit t (i + n) in
    let end = run_end-within is_digit t (i + n) (omega arith) in
    record { value = omega (arith, run, ahead, end); place = (omega arith, omega arith) }

pub returns-then-bytes-ge16 : goal.returns-then-bytes-ge16
returns-then-bytes-ge16 c =
    let t = c.args.bytes.now in
    let i = c.chunks.i in
    let n = length t - i in
    let others = c.no_digits.result / 2 ^ (i - (length t - 16)) in
    let bits = last-bits is_digit t i c.no_digits.result (omega arith) (omega arith) (omega arith) c.no_digits.ensures in
    let run = run_end-stopped is_digit t i n others bits (omega arith) (omega arith) (omega arith) in
    let within = run_end-within is_digit t i (omega arith) in
    record { value = omega (arith, run); place = (omega arith, omega (arith, run, within)) }
