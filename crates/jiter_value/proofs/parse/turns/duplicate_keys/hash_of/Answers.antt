use Rattle.jiter_value.proofs.Words.{◌∙◌, sym, arith}
use Rattle.jiter_value.proofs.DuplicateKeys.{mark-more, mark-all}
use Rattle.jiter_value.proofs.parse.turns.duplicate_keys.hash_of.Goals as goal

pub loop-i-preserved : goal.loop-i-preserved
loop-i-preserved c =
    let l = c.loop-i in
    sym (mark-more l.hash c.as_bytes-bytes.result.now l.i c.loop-i-test.true) ∙ l.invariant

pub returns : goal.returns
returns c =
    let l = c.loop-i in
    sym (mark-all l.hash c.as_bytes-bytes.result.now l.i (omega (arith, c.loop-i-test.false))) ∙ l.invariant
