use Rattle.jiter.proofs.Words.{sym, subst, rules, slice_get_within, skip_at-within, byte_of}
use Rattle.jiter.proofs.ReadLaws.{read-bytes}
use Rattle.jiter.proofs.Refusals.{IsInside, reads-fault, refuses}
use Rattle.jiter.proofs.SkipReplies.{known-read-skipped}
use Rattle.jiter.proofs.jiter.Jiter.known_skip.Goals as goal

pub returns-clause-reads : goal.returns-clause-reads
returns-clause-reads c =
    let s = c.args.self.now in
    let p = c.self.inside.parser in
    let inside = slice_get_within s.text s.position (byte_of c.args.peek) c.requires in
    let at = skip_at-within p.bytes.now c.self.inside.allow_inf_nan p.index (subst IsInside (sym c.self.view_is) inside) in
    read-bytes (search rules) (search rules) (rw (← c.self.view_is) (refuses p.bytes.now c.skip.result c.map_err.result c.map_err.ensures.cases
    (λ f e h. h.0) (reads-fault (λ u. u) p.bytes.now p.index c.skip.result _ _ at c.skip.ensures.value)))

pub returns-clause-as_read : goal.returns-clause-as_read
returns-clause-as_read c = known-read-skipped (returns-clause-reads c)
