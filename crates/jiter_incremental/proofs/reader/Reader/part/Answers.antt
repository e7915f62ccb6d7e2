use Rattle.jiter_incremental.proofs.Words.{arith, ◌∙◌, view}
use Rattle.jiter_incremental.proofs.Leading.{stays-went, steps-went}
use Rattle.jiter_incremental.proofs.Showing.{paused-so}
use Rattle.jiter_incremental.proofs.reader.Reader.part.Goals as goal

pub step-requires-clause-hidden : goal.step-requires-clause-hidden
step-requires-clause-hidden c = (c.requires.paused.apart (omega (arith, c.requires.here))).0

pub step-requires-clause-room : goal.step-requires-clause-room
step-requires-clause-room c = (c.requires.paused.apart (omega (arith, c.requires.here))).1

pub returns-clause-went : goal.returns-clause-went
returns-clause-went c =
    steps-went c.args.level c.args.chunk.now c.args.self.now (view c.args.slot.now) c.step.new.self (view c.step.new.slot)
    c.in_ok-count.count c.requires.ready (c.requires.paused.apart (omega (arith, c.requires.here))).0 c.in_ok-count.ensures.steps

pub returns-clause-paused : goal.returns-clause-paused
returns-clause-paused c =
    let hidden = (c.requires.paused.apart (omega (arith, c.requires.here))).0 in
    paused-so c.args.level _ c.step.new.slot (c.in_ok-count.ensures.steps.moves.still.3 ∙ hidden) c.step.ensures.room

pub returns-in_err-count-clause-went : goal.returns-in_err-count-clause-went
returns-in_err-count-clause-went c =
    stays-went c.args.level c.args.chunk.now c.args.self.now (view c.args.slot.now) c.step.new.self (view c.step.new.slot)
    c.requires.ready (c.requires.paused.apart (omega (arith, c.requires.here))).0 c.in_err-count.ensures.stays

pub returns-in_err-count-clause-paused : goal.returns-in_err-count-clause-paused
returns-in_err-count-clause-paused c =
    let hidden = (c.requires.paused.apart (omega (arith, c.requires.here))).0 in
    paused-so c.args.level _ c.step.new.slot (c.in_err-count.ensures.stays.still.3 ∙ hidden) c.step.ensures.room
