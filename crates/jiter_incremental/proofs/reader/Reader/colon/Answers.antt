use Rattle.jiter_incremental.proofs.Words.{◌∙◌, ap, subst, sym, eq-eqb, ne_eqb, slice_index, view, Steps, refused}
use Rattle.jiter_scan.specs.declared.errors.FaultKind.TheVariants as fault_of
use Rattle.jiter_incremental.proofs.Arms.{colon-missed, colon-passed}
use Rattle.jiter_incremental.proofs.reader.Reader.colon.Goals as goal

pub returns-then-byte-ne58-clause-steps : goal.returns-then-byte-ne58-clause-steps
returns-then-byte-ne58-clause-steps c =
    let i = c.args.self.now in
    let v = view c.args.slot.now in
    let chunk = c.args.chunk.now in
    let is = c.refuse.ensures ∙ ap (refused i fault_of.ExpectedColon) c.position.ensures in
    subst (λ j. Steps c.args.level chunk i v j v 1) (sym is)
    (colon-missed c.args.level chunk i v c.requires.here c.requires.token c.requires.awaits c.requires.other
    (ne_eqb (slice_index chunk i.at) 58 c.if-byte-ne58.true))

pub returns-clause-steps : goal.returns-clause-steps
returns-clause-steps c =
    let i = c.args.self.now in
    let chunk = c.args.chunk.now in
    colon-passed c.args.level chunk i (view c.args.slot.now) c.requires.here c.requires.token c.requires.awaits
    c.requires.other (eq-eqb (slice_index chunk i.at) 58 c.if-byte-ne58.false)
