use Rattle.jiter_value.proofs.Words.{◌<◌, ◌≤◌, length, slice_index, ap, arith}
use Rattle.jiter_value.proofs.Pointing.{no_index, index_parsed}
use Rattle.jiter_value.proofs.value.pointer.index_of.Goals as goal
use Rattle.jiter_value.proofs.value.pointer.index_of.Goals.{else-bytes-gt1-via-then-bytes-gt1+else-bytes-lt49}
use Rattle.jiter_value.proofs.value.pointer.index_of.Goals.{else-bytes-gt1-via-else-bytes-gt1}

pub returns-then-bytes-lt49 : goal.returns-then-bytes-lt49
returns-then-bytes-lt49 c n lt =
    let same = c.as_bytes-bytes.ensures.value in
    let long : 1 < length c.args.token.now = omega (arith, c.if-bytes-gt1.true, ap length same) in
    let low : slice_index c.args.token.now 0 < 49 =
    omega (arith, c.if-bytes-lt49.true, ap (λ s. slice_index s 0) same) in
    (λ e. absurd (cc), λ e. absurd (no_index c.args.token.now n long low lt e))

pub returns : goal.returns
returns c n lt =
    let same = c.as_bytes-bytes.ensures.value in
    let first : 1 < length c.args.token.now → 49 ≤ slice_index c.args.token.now 0 =
    elim c.else-bytes-gt1.branch [
      | else-bytes-gt1-via-then-bytes-gt1+else-bytes-lt49 w ↦
          λ long. omega (arith, w.if-bytes-lt49.false, ap (λ s. slice_index s 0) same)
      | else-bytes-gt1-via-else-bytes-gt1 w ↦
          λ long. absurd (omega (arith, w.if-bytes-gt1.false, long, ap length same))
    ] in
    rw c.ok.ensures.value (index_parsed c.args.token.now c.parse.result c.parse.ensures.value.0 first n lt)
