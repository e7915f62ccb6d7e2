use Rattle.jiter_value.proofs.Words.{◌≡◌, ◌++◌, subst, length, arith, slice_range, quoted_from}
use Rattle.jiter_value.proofs.QuotedKeys.{run-begins, run-more}
use Rattle.jiter_value.proofs.value.quoted.run_end.Goals as goal

pub loop-i-init : goal.loop-i-init
loop-i-init c = run-begins c.args.bytes.now c.args.begin c.requires.within c.requires.plain

pub loop-i-preserved : goal.loop-i-preserved
loop-i-preserved c =
    let t = c.args.bytes.now in
    run-more t c.args.begin c.loop-i.i (quoted_from t c.args.begin) (omega arith) (omega arith) c.in-None.ensures
    c.loop-i.invariant

pub returns-clause-run : goal.returns-clause-run
returns-clause-run c =
    let t = c.args.bytes.now in
    let at : c.loop-i.i ≡ length t = omega arith in
    subst (λ i. slice_range t c.args.begin i ++ quoted_from t i ≡ quoted_from t c.args.begin) at c.loop-i.invariant
