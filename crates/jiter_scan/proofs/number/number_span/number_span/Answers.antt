use Rattle.jiter_scan.proofs.Words.{false, subst, sym, ◌∙◌, number_from, taken, Scans}
use Rattle.jiter_scan.proofs.NumberStarts.{found_float, name-text}
use Rattle.jiter_scan.proofs.number.number_span.number_span.Goals as goal

pub returns-in-Some-clause-parts : goal.returns-in-Some-clause-parts
returns-in-Some-clause-parts c =
    name-text c.args.bytes.now c.args.at c.skip_minus-from.result c.args.allow_inf_nan c.in-Some.name.now c.in_ok-end.end
    c.in-Some.ensures.name (sym c.in_ok-end.ensures.value) c.in_ok-end.ensures.end.0 c.in_ok-end.ensures.end.1

pub returns-in-Ok-2-clause-parts : goal.returns-in-Ok-2-clause-parts
returns-in-Ok-2-clause-parts c =
    let t = c.args.bytes.now in
    let got = c.stages_end-stage.result in
    let ends =
    subst (λ r. Scans (λ _. taken tt got.1) r (number_from false got.0 t got.1)) c.in-Ok-2.is c.stages_end-stage.ensures.ends in
    found_float t c.args.at c.skip_minus-from.result got.0 got.1 c.skip_minus-from.ensures.minus
    c.stages_end-stage.ensures.goes ends (sym c.is_int_stage.ensures ∙ c.if-is_int_stage.false)
