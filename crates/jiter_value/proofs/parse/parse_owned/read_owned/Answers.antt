use Rattle.jiter_value.proofs.Words.{refl, subst, inl, Returns, owned_text, view}
use Rattle.jiter_value.specs.Settings.{each}
use Rattle.jiter_value.proofs.MadeTexts.{value_at-as}
use Rattle.jiter_value.proofs.TurnOutcomes.{refused-weaker}
use Rattle.jiter_value.proofs.parse.parse_owned.read_owned.Goals as goal

pub returns-then-begins_container-clause-value : goal.returns-then-begins_container-clause-value
returns-then-begins_container-clause-value c =
    let a = c.args in
    subst (Returns view c.own_container.result c.own_container.new.parser.index)
    (value_at-as (each owned_text) refl a.settings a.parser.now.bytes.now 200 a.parser.now.index)
    c.own_container.ensures.value

pub returns-then-begins_container-clause-memory : goal.returns-then-begins_container-clause-memory
returns-then-begins_container-clause-memory c =
    refused-weaker c.own_container.result _ _ (λ h. inl h) c.own_container.ensures.memory
