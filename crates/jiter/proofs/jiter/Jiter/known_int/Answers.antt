use Rattle.jiter.proofs.Words.{◌<◌, ◌≤◌, arith, rules, int_read}
use Rattle.jiter.proofs.Peeking.{known-above, known-low}
use Rattle.jiter.proofs.ReadLaws.{read-bytes}
use Rattle.jiter.proofs.jiter.Jiter.known_int.Goals as goal

pub returns-then-into_inner-gt32 : goal.returns-then-into_inner-gt32
returns-then-into_inner-gt32 c =
    let s = c.args.self.now in
    let above : 32 < c.args.peek.0 = omega (arith, c.if-into_inner-gt32.true, c.into_inner.ensures) in
    record { reads = rw (known-above s (int_read s) c.args.peek.0 c.requires above) c.next_int.ensures.reads }

pub returns-else-into_inner-gt32 : goal.returns-else-into_inner-gt32
returns-else-into_inner-gt32 c =
    let s = c.args.self.now in
    let low : c.args.peek.0 ≤ 32 = omega (arith, c.if-into_inner-gt32.false, c.into_inner.ensures) in
    record {
      reads = rw (known-low s (int_read s) c.args.peek.0 c.requires low)
          (read-bytes (search rules) (search rules) c.refused_as.ensures.refusal);
    }
