use Rattle.jiter.proofs.Words.{sym, subst, number_at-within}
use Rattle.jiter.proofs.Refusals.{scalar-within, IsInside, refusal-failed}
use Rattle.jiter.proofs.jiter.Jiter.refused_as.Goals as goal

pub returns-in-Err-clause-refusal : goal.returns-in-Err-clause-refusal
returns-in-Err-clause-refusal c =
    let p = c.self.inside.parser in
    let inside = subst IsInside (sym c.self.view_is) c.requires.within in
    let at = number_at-within c.self.inside.allow_inf_nan p.bytes.now p.index inside in
    rw (← c.self.view_is) (refusal-failed p.bytes.now _ _ _ c.refusal.ensures.value _
    (scalar-within p.bytes.now p.index _ at) c.in-Err.ensures.value)
