use Rattle.jiter.proofs.Words.{rules}
use Rattle.jiter_scan.proofs.NumberLaws.{int_at-within}
use Rattle.jiter.proofs.ReadLaws.{read-bytes}
use Rattle.jiter.proofs.Refusals.{refusal-failed}
use Rattle.jiter.proofs.jiter.Jiter.next_int.Goals as goal

pub returns-in-Err : goal.returns-in-Err
returns-in-Err c =
    let t = c.self.inside.parser.bytes.now in
    let within = int_at-within t c.peek-at.result.0 c.peek-at.ensures.within.1 in
    record {
      reads = read-bytes (search rules) (search rules)
          (rw (← c.self.view_is) (refusal-failed t _ _ _ c.refusal.ensures.value _ within c.in-Err.ensures.value));
    }
