use Rattle.std.proofs.Common.{refl}
use Rattle.jiter.specs.Caller.{at_start}
use Rattle.jiter.proofs.Walking.{seen-refused}
use Rattle.jiter.proofs.Walking.{moves-on}
use Rattle.filter.proofs.Walk.{all-first, all-more, fails-so, finished, less-left, one-key-fails}
use Rattle.filter.proofs.Walk.{one-value-fails}
use Rattle.filter.proofs.members.find_members.Goals as goal

pub loop-next-init : goal.loop-next-init
loop-next-init c =
    let reads = rw c.new-jiter.ensures at c.in_ok-next.ensures.reads in
    (reads.moves, all-first c.args.members.now c.args.line.now _ _ _ reads.moves reads.value c.requires)

pub returns-in_err-pass_value-clause-reads : goal.returns-in_err-pass_value-clause-reads
returns-in_err-pass_value-clause-reads c =
    let here = rw c.in-Some.is at c.loop-next.invariant.1 in
    fails-so c.args.members.now c.args.line.now _ _ _ _ c.from_residual-in_err-pass_value.ensures.1
    (λ m one bytes. one-value-fails c.args.members.now c.args.line.now m one _ (c.in-Some.key, c.in-Some.field-0-1) _ here _ refl _ _ _
    (c.in_err-pass_value.ensures.reads.value bytes))

pub returns-in_err-next-2-clause-reads : goal.returns-in_err-next-2-clause-reads
returns-in_err-next-2-clause-reads c =
    let here = rw c.in-Some.is at c.loop-next.invariant.1 in
    let passed = c.in_ok-pass_value.ensures.reads in
    fails-so c.args.members.now c.args.line.now _ _ _ _ c.from_residual-in_err-next-2.ensures.1
    (λ m one bytes. one-key-fails c.args.members.now c.args.line.now m one _ (c.in-Some.key, c.in-Some.field-0-1) _ here _ refl _ _ _ _ passed.moves
    passed.value (seen-refused _ _ _ _ _ (c.in_err-next-2.ensures.reads.value bytes)))

pub loop-next-smaller : goal.loop-next-smaller
loop-next-smaller c =
    let here = rw c.in-Some.is at c.loop-next.invariant.1 in
    let passed = c.in_ok-pass_value.ensures.reads in
    let key = c.in_ok-next-2.ensures.reads in
    less-left c.args.members.now c.args.line.now _ _ _ (c.in-Some.key, c.in-Some.field-0-1) _ here passed.moves _ refl passed.value c.loop-next.invariant.0 _
    key.moves key.value

pub loop-next-preserved : goal.loop-next-preserved
loop-next-preserved c =
    let here = rw c.in-Some.is at c.loop-next.invariant.1 in
    let passed = c.in_ok-pass_value.ensures.reads in
    let key = c.in_ok-next-2.ensures.reads in (
      moves-on (at_start c.args.line.now) _ _ (moves-on (at_start c.args.line.now) _ _ c.loop-next.invariant.0 passed.moves)
          key.moves,
      all-more c.args.members.now c.args.line.now _ _ _ (c.in-Some.key, c.in-Some.field-0-1) _ here passed.moves _ refl passed.value _ key.moves key.value _ refl
          _ c.in_ok-pass_value.ensures.kept,
    )

pub returns-clause-reads : goal.returns-clause-reads
returns-clause-reads c =
    let here = rw c.in_default.is at c.loop-next.invariant.1 in
    finished c.args.members.now c.args.line.now c.loop-next.sources _ _ here c.finish.result c.finish.ensures.reads
