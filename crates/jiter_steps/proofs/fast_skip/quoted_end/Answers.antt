use Rattle.jiter_steps.proofs.Words.{◌+◌, ◌∙◌, ap, sym, arith, Some, is_plain}
use Rattle.jiter_scan.proofs.Chunks.{run_end-clear, run_end-stopped, run_end-near}
use Rattle.jiter_steps.proofs.Calls.FastSkips.{near-closed, stop-stands}
use Rattle.jiter_steps.proofs.Grammar.Places.{got}
use Rattle.jiter_steps.proofs.fast_skip.quoted_end.Goals as goal

pub bounds-bytes-to : goal.bounds-bytes-to
bounds-bytes-to c =
    let t = c.args.bytes.now in
    let i = c.args.at + 1 in
    let found = c.stops-found in
    let stop = run_end-stopped is_plain t i 16 found.result found.ensures (omega arith) (omega arith) (omega arith) in
    omega (arith, stop, run_end-near is_plain t i 16 found.result found.ensures (omega arith) (omega arith))

pub returns-then-bytes-to-eq34-clause-value : goal.returns-then-bytes-to-eq34-clause-value
returns-then-bytes-to-eq34-clause-value c =
    let t = c.args.bytes.now in
    let i = c.args.at + 1 in
    let found = c.stops-found in
    let stop = run_end-stopped is_plain t i 16 found.result found.ensures (omega arith) (omega arith) (omega arith) in
    let near = run_end-near is_plain t i 16 found.result found.ensures (omega arith) (omega arith) in
    near-closed t c.args.at _ (omega arith) (sym stop)
    (got t _ (omega (arith, stop, near)) ∙ ap Some c.if-bytes-to-eq34.true)

pub closed_end-requires-clause-plain : goal.closed_end-requires-clause-plain
closed_end-requires-clause-plain c =
    let found = c.stops-found in
    run_end-clear is_plain c.args.bytes.now _ 16 found.result found.ensures (omega arith) c.if-found-eq0.true

pub closed_end-requires-else-bytes-to-eq34-clause-within :
    goal.closed_end-requires-else-bytes-to-eq34-clause-within
closed_end-requires-else-bytes-to-eq34-clause-within c =
    let t = c.args.bytes.now in
    let i = c.args.at + 1 in
    let found = c.stops-found in
    let stop = run_end-stopped is_plain t i 16 found.result found.ensures (omega arith) (omega arith) (omega arith) in
    let near = run_end-near is_plain t i 16 found.result found.ensures (omega arith) (omega arith) in
    (omega arith, omega (arith, stop, near))

pub closed_end-requires-else-bytes-to-eq34-clause-plain :
    goal.closed_end-requires-else-bytes-to-eq34-clause-plain
closed_end-requires-else-bytes-to-eq34-clause-plain c =
    let t = c.args.bytes.now in
    let i = c.args.at + 1 in
    let found = c.stops-found in
    let stop = run_end-stopped is_plain t i 16 found.result found.ensures (omega arith) (omega arith) (omega arith) in
    let near = run_end-near is_plain t i 16 found.result found.ensures (omega arith) (omega arith) in
    stop-stands t i _ (omega (arith, stop, near)) (sym stop)
