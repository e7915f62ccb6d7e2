use Rattle.std.proofs.Common.{arith}
use Rattle.std.proofs.KnownBytes.{Keeps-refl}
use Rattle.std.specs.List.{concat}
use Rattle.viewer.proofs.Following.{all-arrived, all-shown, breaks-off, goes-on, if-err, stays, stopped}
use Rattle.viewer.proofs.view.follow.Goals as goal
use Rattle.viewer.proofs.view.follow.Goals.{in-Ok+in_ok-take-in-Ok+in_ok-last-in-Ok, in-Err}

pub returns-in-Ok-eq0-clause-all : goal.returns-in-Ok-eq0-clause-all
returns-in-Ok-eq0-clause-all g c = λ options begun.
    let read = rw c.in-Ok-eq0.is at c.read.ensures.bytes in
    let end = read.1 c.in-Ok-eq0.field-0-test (omega arith) in
    all-arrived c.args.output options _ _ _ _ _ _ (c.loop.invariant options begun) _ (rw c.in-Ok-eq0.field-0-test at read.0) end

pub returns-in-Ok-eq0-clause-shown : goal.returns-in-Ok-eq0-clause-shown
returns-in-Ok-eq0-clause-shown g c = λ options begun.
    let read = rw c.in-Ok-eq0.is at c.read.ensures.bytes in
    let end = read.1 c.in-Ok-eq0.field-0-test (omega arith) in
    all-shown c.args.output options _ _ _ _ _ _ (c.loop.invariant options begun) _ (rw c.in-Ok-eq0.field-0-test at read.0) end

pub returns-in_err-take-in-Ok-clause-prefix : goal.returns-in_err-take-in-Ok-clause-prefix
returns-in_err-take-in-Ok-clause-prefix g c = λ options begun.
    if-err _ (stopped c.args.output options _ _ _ _ _ _ (c.loop.invariant options begun) _ (Keeps-refl _))

pub returns-in_err-last-in-Ok-clause-prefix : goal.returns-in_err-last-in-Ok-clause-prefix
returns-in_err-last-in-Ok-clause-prefix g c = λ options begun.
    let held = c.loop.invariant options begun in
    let more = c.in_ok-take-in-Ok.ensures options (concat held.pieces) held.arrived in
    let broken = c.in_err-last-in-Ok.ensures.prefix options _ more in
    if-err _ (breaks-off c.args.output options _ _ _ _ _ _ held _ _ c.in-Ok.ensures.bytes.0 _ broken)

pub returns-in-Err-2-clause-prefix : goal.returns-in-Err-2-clause-prefix
returns-in-Err-2-clause-prefix g c = λ options begun.
    stopped c.args.output options _ _ _ _ _ _ (c.loop.invariant options begun) _ (Keeps-refl _)

pub loop-preserved : goal.loop-preserved
loop-preserved g c = λ options begun.
    let held = c.loop.invariant options begun in
    elim c.match-read.branch [
      | in-Ok+in_ok-take-in-Ok+in_ok-last-in-Ok w ↦ (
          let more = w.in_ok-take-in-Ok.ensures options (concat held.pieces) held.arrived in
          rw w.out-is (rw w.input-is (rw w.last-is
          (goes-on c.args.output options _ _ _ _ _ _ held _ _ w.in-Ok.ensures.bytes.0 _ more _ _
          (w.in_ok-last-in-Ok.ensures.whole options _ more)))))
      | in-Err w ↦ rw w.out-is (rw w.input-is (rw w.last-is
          (stays c.args.output options _ _ _ _ _ _ held _ w.in-Err.ensures.bytes)))
    ]

pub returns-clause-prefix : goal.returns-clause-prefix
returns-clause-prefix g c = λ options begun.
    stopped c.args.output options _ _ _ _ _ _ (c.loop.invariant options begun) _ (Keeps-refl _)
