use Rattle.jiter_value.proofs.Words.{◌∙◌, ap, arith, refl, sym, fault_kind, done}
use Rattle.jiter_scan.specs.NumberDecoder.{number_view}
use Rattle.jiter_steps.specs.declared.parse.Start.TheVariants as start
use Rattle.jiter_value.proofs.BorrowedTexts.{number-borrowed}
use Rattle.jiter_value.proofs.Placed.{number-failed, number-read}
use Rattle.jiter_value.proofs.TurnOutcomes.{grows-kept, refused-turned}
use Rattle.jiter_value.proofs.parse.turns.scalars.slow_number_turn.Goals as goal

pub number_value-requires : goal.number_value-requires
number_value-requires g c κs =
    let a = c.args in
    let n = c.in-Ok in (
      (refl, tt),
      (
        c.requires.texts,
        number-borrowed a.reading.now.settings.allow_inf_nan a.bytes.now a.at (number_view n.number) n.end
            c.requires.at_value.2 n.ensures.value,
      ),
    )

pub put_and_go_on-requires : goal.put_and_go_on-requires
put_and_go_on-requires g c κs =
    let a = c.args in
    let n = c.in-Ok in
    let v = c.in-Ok-number_value.ensures in (
      (refl, tt),
      (
        c.requires.at_value,
        (
          λ levels. number-read g.T.StringStorage.policy a.reading.now.settings a.bytes.now a.at n.end levels
              (number_view n.number) c.requires.begins n.ensures.value
              ∙ ap (λ x. done x n.end) (sym v.value),
          (v.one, n.ensures.place),
        ),
      ),
    )

pub returns-in-Err-number_value : goal.returns-in-Err-number_value
returns-in-Err-number_value g c =
    let a = c.args in
    let n = c.in-Ok in
    refused-turned g.T.StringStorage.policy g.T.StringStorage.wants a.bytes.now a.at a.slot a.reading.now _ n.end _
    c.in-Err-number_value.refused c.no_memory.ensures.place c.no_memory.ensures.error
    (omega (arith, n.ensures.place.0)) n.ensures.place.1
    (grows-kept a.bytes.now a.at g.T.StringStorage.wants start.Number c.requires.begins (λ h. cc) (λ h. cc)
    c.in-Err-number_value.ensures.memory)
    refl

pub fault_in_value-requires : goal.fault_in_value-requires
fault_in_value-requires g c κs =
    let a = c.args in
    let f = c.in-Err.fault in (
      (refl, tt),
      (
        c.requires.at_value,
        λ levels. number-failed g.T.StringStorage.policy a.reading.now.settings a.bytes.now a.at f.index levels
            (fault_kind f.kind) c.requires.begins c.in-Err.ensures.value,
      ),
    )
