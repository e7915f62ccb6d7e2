use Rattle.jiter.proofs.Words.{sym, subst, rules, string_at-within, raw_view}
use Rattle.jiter.proofs.ReadLaws.{read-bytes}
use Rattle.jiter.proofs.Refusals.{IsInside, reading-within, reads-fault, refuses}
use Rattle.jiter.proofs.jiter.Jiter.raw_string.Goals as goal

pub returns : goal.returns
returns c =
    let p = c.self.inside.parser in
    let at = reading-within p.bytes.now p.index _ p.within
    (string_at-within _ p.bytes.now p.index (subst IsInside (sym c.self.view_is) c.requires)) in
    record {
      reads = read-bytes (search rules) (search rules) (rw (← c.self.view_is) (refuses p.bytes.now c.raw_string.result c.map_err.result c.map_err.ensures.cases
          (λ f e h. h.0)
          (reads-fault raw_view p.bytes.now p.index c.raw_string.result _ _ at c.raw_string.ensures.value)));
    }
