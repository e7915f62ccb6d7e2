use Rattle.std.proofs.Common.{◌∙◌, ap, sym, arith}
use Rattle.jiter_value.specs.Value.{view}
use Rattle.jiter_value.specs.declared.value.JsonValue.{JsonValue}
use Rattle.jiter_c.specs.Values.{value_report}
use Rattle.jiter_c.proofs.Members.{items_told, members_told}
use Rattle.jiter_c.proofs.values.describe.Goals as goal

pub returns-in-Array : goal.returns-in-Array
returns-in-Array c =
    let items = c.in-Array.items in
    c.typed_value-in-Array.ensures
    ∙ items_told items _ (omega (arith, c.len.ensures, items.ok.0))
    ∙ ap (λ (v : JsonValue). value_report (view v)) (sym c.in-Array.is)

pub returns-in-Object : goal.returns-in-Object
returns-in-Object c =
    let members = c.in-Object.members in
    c.typed_value-in-Object.ensures
    ∙ members_told members _ (omega (arith, c.len-in-Object.ensures, members.ok.0))
    ∙ ap (λ (v : JsonValue). value_report (view v)) (sym c.in-Object.is)
