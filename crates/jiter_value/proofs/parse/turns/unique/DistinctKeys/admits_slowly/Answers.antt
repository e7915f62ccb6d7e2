use Rattle.jiter_value.proofs.Words.{◌∙◌, ap, arith, refl, sym, option_map, text_view}
use Rattle.jiter_value.specs.UniqueKeys.{fault_of}
use Rattle.jiter_value.proofs.Repeats.{refused-key}
use Rattle.jiter_value.proofs.parse.turns.unique.DistinctKeys.admits_slowly.Goals as goal

pub returns-in-Ok-None-clause-free : goal.returns-in-Ok-None-clause-free
returns-in-Ok-None-clause-free c = λ _.
    let a = c.args in
    let read = c.requires.read in
    let found = c.in-Ok-None in
    refused-key a.bytes.now a.stacks.now a.at a.end read.0 (text_view a.key.now) c.requires.stands read.1
    ∙ sym found.ensures.found ∙ ap (option_map fault_of) found.field-0-is

pub returns-in-Ok-Some-clause-refused : goal.returns-in-Ok-Some-clause-refused
returns-in-Ok-Some-clause-refused c = λ _.
    let a = c.args in
    let read = c.requires.read in
    let found = c.in-Ok-Some in
    let place = rw found.field-0-is at found.ensures.place in (
      (
        refused-key a.bytes.now a.stacks.now a.at a.end read.0 (text_view a.key.now) c.requires.stands read.1
            ∙ sym found.ensures.found ∙ ap (option_map fault_of) found.field-0-is,
        refl,
      ),
      omega (arith, read.1.within.0, place.0),
      place.1,
    )
