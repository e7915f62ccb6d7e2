use Rattle.jiter.proofs.Words.{◌<◌, sym, subst, length, rules, arith, literal_at-within}
use Rattle.jiter.proofs.ReadLaws.{read-bytes}
use Rattle.jiter.proofs.Refusals.{refusal-failed, scalar-within}
use Rattle.jiter.proofs.jiter.Jiter.cold_literal.Goals as goal

pub returns-in-Err : goal.returns-in-Err
returns-in-Err g c =
    let t = c.self.inside.parser.bytes.now in
    let inside = subst (λ s. c.args.at < length s.text) (sym c.self.view_is) c.requires.1 in
    let at = literal_at-within t c.args.literal c.args.at (omega (arith, inside)) in
    record {
      reads = read-bytes (search rules) (search rules) (rw (← c.self.view_is)
          (refusal-failed t _ _ _ c.refusal.ensures.value _ (scalar-within t c.args.at _ at) c.in-Err.ensures.value));
    }
