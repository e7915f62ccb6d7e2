use Rattle.jiter_steps.proofs.Words.{◌+◌, ◌∙◌, sym, ap, arith, count_trailing_zeros, common_steps}
use Rattle.jiter_steps.proofs.Grammar.Blanks.{past_blanks-blank, past_blanks-other, past_blanks-above, past_blanks-end}
use Rattle.jiter_steps.proofs.Grammar.Blanks.{past_blanks-bound, past_blanks-through, past_blanks-inside}
use Rattle.jiter_steps.proofs.whitespace.blanks_end.Goals.{then-is_blank, else-is_blank}
use Rattle.jiter_steps.proofs.whitespace.blanks_end.Goals as goal

pub returns-then-bytes-from-gt32-clause-value : goal.returns-then-bytes-from-gt32-clause-value
returns-then-bytes-from-gt32-clause-value c =
    let t = c.args.bytes.now in
    let i = c.args.from in
    let here = sym c.is_blank.ensures in
    elim c.if-is_blank.branch [
      | then-is_blank w ↦
          let passed = past_blanks-blank t i (omega arith) (here ∙ w.if-is_blank.true) in
          let ended = past_blanks-above t (i + 1) (omega arith) (omega (arith, c.if-bytes-from-gt32.true)) in
          omega (arith, w.result-is)
      | else-is_blank w ↦
          let ended = past_blanks-other t i (omega arith) (here ∙ w.if-is_blank.false) in
          omega (arith, w.result-is)
    ]

pub returns-then-others-ne0-clause-value : goal.returns-then-others-ne0-clause-value
returns-then-others-ne0-clause-value c =
    let others = c.no_blanks-others in
    let run = past_blanks-inside c.args.bytes.now c.chunks.at (omega arith) (omega (arith, others.ensures)) in
    let count = ap (count_trailing_zeros 64) others.ensures in
    omega arith

pub returns-then-others-ne0-clause-bound : goal.returns-then-others-ne0-clause-bound
returns-then-others-ne0-clause-bound c =
    let others = c.no_blanks-others in
    let run = past_blanks-inside c.args.bytes.now c.chunks.at (omega arith) (omega (arith, others.ensures)) in
    let count = ap (count_trailing_zeros 64) others.ensures in
    let bound = past_blanks-bound c.args.bytes.now c.chunks.at c.chunks.invariant.within in
    omega arith

pub chunks-preserved : goal.chunks-preserved
chunks-preserved c =
    let run = past_blanks-through c.args.bytes.now c.chunks.at (omega arith)
    (omega (arith, c.no_blanks-others.ensures)) in
    record { above = omega arith; within = omega arith; run = omega arith }

pub bytes-preserved : goal.bytes-preserved
bytes-preserved c = grind (arith, common_steps, past_blanks-blank c.args.bytes.now c.bytes.at)

pub returns-else-is_blank-2-clause-value : goal.returns-else-is_blank-2-clause-value
returns-else-is_blank-2-clause-value c = grind (arith, common_steps, past_blanks-other c.args.bytes.now c.bytes.at)

pub returns-after-bytes-clause-value : goal.returns-after-bytes-clause-value
returns-after-bytes-clause-value c = grind (arith, common_steps, past_blanks-end c.args.bytes.now c.bytes.at)
