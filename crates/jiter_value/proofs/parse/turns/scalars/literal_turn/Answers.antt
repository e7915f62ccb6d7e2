use Rattle.jiter_value.proofs.Words.{◌∙◌, ap, refl, sym, done}
use Rattle.jiter_value.proofs.Placed.{literal-read}
use Rattle.jiter_value.proofs.parse.turns.scalars.literal_turn.Goals as goal

pub put_and_go_on-requires : goal.put_and_go_on-requires
put_and_go_on-requires g c κs =
    let a = c.args in
    let v = c.literal_value-value.ensures in (
      (refl, tt),
      (
        c.requires.at_value,
        (
          λ levels. literal-read g.T.StringStorage.policy a.reading.now.settings a.bytes.now a.at c.in-Some.end levels a.literal
              c.requires.begins c.in-Some.ensures.value
              ∙ ap (λ x. done x c.in-Some.end) (sym v.value),
          (v.one, c.in-Some.ensures.within),
        ),
      ),
    )
