use Rattle.jiter_incremental.proofs.Words.{view}
use Rattle.jiter_incremental.proofs.Over.{calm-so, here-of, over-step, refuses-blank, refuses-token}
use Rattle.jiter_incremental.proofs.reader.Reader.step.Goals as goal

pub returns-then-is_over-clause-steps : goal.returns-then-is_over-clause-steps
returns-then-is_over-clause-steps c =
    over-step c.args.level c.args.chunk.now c.args.self.now (view c.args.slot.now) c.requires.ready c.requires.here
    c.requires.inside (λ x. c.is_over.ensures.over x c.if-is_over.true)

pub next-requires-clause-here : goal.next-requires-clause-here
next-requires-clause-here c =
    here-of c.args.level c.args.chunk.now c.args.self.now (view c.args.slot.now) c.requires.ready c.requires.here
    c.requires.hidden c.requires.inside (c.is_over.ensures.unset c.if-is_over.false)

pub token-requires-clause-here : goal.token-requires-clause-here
token-requires-clause-here c =
    here-of c.args.level c.args.chunk.now c.args.self.now (view c.args.slot.now) c.requires.ready c.requires.here
    c.requires.hidden c.requires.inside (c.is_over.ensures.unset c.if-is_over.false)

pub returns-in-Nothing-clause-wanted : goal.returns-in-Nothing-clause-wanted
returns-in-Nothing-clause-wanted c =
    refuses-blank c.args.level c.args.chunk.now c.args.self.now (view c.args.slot.now) c.next.new.self (view c.next.new.slot)
    c.next.result c.requires.inside c.next.ensures.stays c.next.ensures.wanted

pub returns-in_default : goal.returns-in_default
returns-in_default c =
    let i = c.args.self.now in
    let v = view c.args.slot.now in
    let j = c.token.new.self in
    let w = view c.token.new.slot in
    record {
      steps = c.token.ensures.steps;
      stays = c.token.ensures.stays;
      wanted =
          refuses-token c.args.level c.args.chunk.now i v j w c.token.result c.requires.inside
          (c.is_over.ensures.unset c.if-is_over.false) c.in_default.not-Nothing c.token.ensures.stays;
      calm =
          calm-so c.args.level c.args.chunk.now i v j w c.token.result c.requires.here c.token.ensures.steps
          c.token.ensures.stays;
      room = c.token.ensures.room;
    }
