use Rattle.jiter_incremental.proofs.Words.{inl, view}
use Rattle.jiter_incremental.proofs.NumberSteps.{number-kept, number-steps}
use Rattle.jiter_incremental.proofs.reader.Reader.take_number.Goals as goal

pub end_number-requires-clause-space : goal.end_number-requires-clause-space
end_number-requires-clause-space c = (c.requires.room (inl c.requires.token)).1

pub returns-in-Taken-clause-steps : goal.returns-in-Taken-clause-steps
returns-in-Taken-clause-steps c =
    number-steps c.args.level c.args.chunk.now c.args.self.now (view c.args.slot.now) c.requires.here c.requires.token
    c.more.new.self c.more.result c.more.ensures.part c.more.ensures.held

pub returns-in-Taken-clause-stays : goal.returns-in-Taken-clause-stays
returns-in-Taken-clause-stays c =
    number-kept c.args.level c.args.chunk.now c.args.self.now (view c.args.slot.now) c.requires.here c.requires.token
    c.more.new.self c.more.result c.more.ensures.refused
