use Rattle.jiter.proofs.Words.{sym, subst, rules, number_at-within}
use Rattle.jiter_scan.specs.NumberDecoder.{number_view}
use Rattle.jiter.proofs.ReadLaws.{read-bytes}
use Rattle.jiter.proofs.Refusals.{IsInside, reading-within, reads-fault, refuses}
use Rattle.jiter.proofs.jiter.Jiter.number.Goals as goal

pub returns : goal.returns
returns c =
    let p = c.self.inside.parser in
    let at = reading-within p.bytes.now p.index _ p.within (number_at-within c.self.inside.allow_inf_nan p.bytes.now
    p.index (subst IsInside (sym c.self.view_is) c.requires.within)) in
    record {
      reads = read-bytes (search rules) (search rules) (rw (← c.self.view_is) (refuses p.bytes.now c.number.result c.map_err.result c.map_err.ensures.cases
          (λ f e h. h.0) (reads-fault number_view p.bytes.now p.index c.number.result _ _ at c.number.ensures.value)));
    }
