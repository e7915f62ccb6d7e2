use Rattle.jiter_steps.proofs.Chunks.OpenStrings.{run-goes-if}
use Rattle.jiter_steps.proofs.partial_string.PartialString.plain.Goals as goal

pub returns-clause-taken : goal.returns-clause-taken
returns-clause-taken c =
    λ w h.
    run-goes-if c.args.self.now w h c.args.chunk.now c.plain_run.result.now c.args.at c.add.new.self c.requires.none
    c.plain_run.ensures.plain c.plain_run.ensures.is c.add.result (c.add.ensures.taken h.decoded h.holds)
    c.add.ensures.within
