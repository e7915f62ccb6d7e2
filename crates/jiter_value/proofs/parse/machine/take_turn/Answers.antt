use Rattle.jiter_value.proofs.Words.{refl, subst, sym, ◌∙◌, past_blanks, keys_of, GoesOn}
use Rattle.jiter_value.proofs.Ended.{has-ended, own-keys}
use Rattle.jiter_value.proofs.parse.machine.take_turn.Goals as goal

pub go-requires : goal.go-requires
go-requires c κs =
    let t = c.args.bytes.now in
    let r = c.args.reading.now in
    let under = c.requires in (
      (refl, tt),
      (refl, (refl, (refl, ((past_blanks t 0, under.0), (under.1, (keys_of r.stacks.members.items, tt, own-keys r.stacks.members.items)))))),
    )

pub returns-in-GivenUp-clause-over : goal.returns-in-GivenUp-clause-over
returns-in-GivenUp-clause-over c = λ _.
    let t = c.args.bytes.now in
    let n = c.go.new.self in
    has-ended t n.settings n.stacks n.at n.state (c.go.ensures.gone (past_blanks t 0) c.requires.0)
    (λ on. subst GoesOn (sym c.go.ensures.state ∙ c.in-GivenUp.is) on)
