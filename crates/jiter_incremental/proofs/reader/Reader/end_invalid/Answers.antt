use Rattle.jiter_incremental.proofs.Words.{◌+◌, ◌∙◌, ap, refl, subst, sym, slice_index, StepsTo, view, Steps, refused}
use Rattle.jiter_incremental.proofs.Words.{Reader}
use Rattle.jiter_scan.specs.declared.errors.FaultKind.TheVariants as fault_of
use Rattle.jiter_scan.specs.declared.number.partial_number.NumberStep.TheVariants as went
use Rattle.jiter_incremental.proofs.NumberSteps.{invalid-only, number-wrong}
use Rattle.jiter_incremental.proofs.reader.Reader.end_invalid.Goals as goal

pub returns-in-TooLong-clause-steps : goal.returns-in-TooLong-clause-steps
returns-in-TooLong-clause-steps c =
    let i = c.args.self.now in
    let chunk = c.args.chunk.now in
    let v = view c.args.slot.now in
    let kind = fault_of.NumberOutOfRange in
    let is = c.refuse.ensures ∙ ap (λ n. refused i kind (n + 1)) c.position.ensures in
    subst (λ (j : Reader). Steps c.args.level chunk i v j v 1) (sym is)
    (number-wrong c.args.level chunk i v c.requires.here c.requires.token kind went.TooLong (i.base + i.at + 1) refl
    (subst (StepsTo i.number.stage (slice_index chunk i.at)) c.in-TooLong.is c.requires.leads) (λ names u. refl))

pub returns-in_default-clause-steps : goal.returns-in_default-clause-steps
returns-in_default-clause-steps c =
    let i = c.args.self.now in
    let chunk = c.args.chunk.now in
    let v = view c.args.slot.now in
    let kind = fault_of.InvalidNumber in
    let is = c.refuse-in_default.ensures ∙ ap (refused i kind) c.position-in_default.ensures in
    let invalid = invalid-only c.args.went c.requires.wrong c.in_default.not-TooLong in
    subst (λ (j : Reader). Steps c.args.level chunk i v j v 1) (sym is)
    (number-wrong c.args.level chunk i v c.requires.here c.requires.token kind went.Invalid (i.base + i.at) refl
    (subst (StepsTo i.number.stage (slice_index chunk i.at)) invalid c.requires.leads) (λ names u. refl))
