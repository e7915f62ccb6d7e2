use Rattle.std.proofs.Common.{◌∙◌, ap}
use Rattle.jiter_value.specs.Pointer.{pointed_by}
use Rattle.jiter_value.specs.Value.{view}
use Rattle.jiter_c.proofs.Members.{no_text, pointed}
use Rattle.jiter_c.proofs.values.placed.Goals as goal

pub returns-in-Some : goal.returns-in-Some
returns-in-Some c =
    let v = view c.args.value.now in
    pointed c.args.pointer.now c.args.steps.now v _ _ c.in-Ok.ensures.cases.1
    (c.in-Some.ensures ∙ ap (λ t. pointed_by t v) c.in-Ok.ensures.cases.0) c.stepped.ensures

pub returns-in-Err : goal.returns-in-Err
returns-in-Err c = no_text c.args.pointer.now c.args.steps.now (view c.args.value.now) c.in-Err.ensures.cases.0
