use Rattle.jiter_value.proofs.Words.{◌∙◌, ap, refl, sym, fault_kind, done}
use Rattle.jiter_value.proofs.Placed.{literal-failed, literal-read}
use Rattle.jiter_value.proofs.parse.turns.scalars.slow_literal_turn.Goals as goal

pub put_and_go_on-requires : goal.put_and_go_on-requires
put_and_go_on-requires g c κs =
    let a = c.args in
    let v = c.literal_value-value.ensures in (
      (refl, tt),
      (
        c.requires.at_value,
        (
          λ levels. literal-read g.T.StringStorage.policy a.reading.now.settings a.bytes.now a.at c.in-Ok.end levels a.literal
              c.requires.begins c.in-Ok.ensures.value
              ∙ ap (λ x. done x c.in-Ok.end) (sym v.value),
          (v.one, c.in-Ok.ensures.end),
        ),
      ),
    )

pub fault_in_value-requires : goal.fault_in_value-requires
fault_in_value-requires g c κs =
    let a = c.args in
    let f = c.in-Err.fault in (
      (refl, tt),
      (
        c.requires.at_value,
        λ levels. literal-failed g.T.StringStorage.policy a.reading.now.settings a.bytes.now a.at f.index levels a.literal
            (fault_kind f.kind) c.requires.begins c.in-Err.ensures.value,
      ),
    )
