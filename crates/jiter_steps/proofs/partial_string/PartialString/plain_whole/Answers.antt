use Rattle.jiter_steps.proofs.Words.{refl, slice_range}
use Rattle.jiter_steps.proofs.Chunks.OpenStrings.{grown-range, run-goes-if, run-plain, run-whole}
use Rattle.jiter_steps.proofs.partial_string.PartialString.plain_whole.Goals as goal

pub returns-then-low-clause-taken : goal.returns-then-low-clause-taken
returns-then-low-clause-taken c =
    λ w h.
    let to = c.scan_string-to.result.0 in
    let chunk = c.args.chunk.now in
    let at = c.args.at in
    grown-range c.args.self.now w h chunk at to c.requires.even c.scan_string-to.ensures.within.0
    (run-plain chunk at to c.scan_string-to.ensures.stop) c.add_ascii.new.self c.in_ok-add_ascii.ensures.ok _ refl

pub returns-clause-taken : goal.returns-clause-taken
returns-clause-taken c =
    λ w h.
    let to = c.scan_string-to.result.0 in
    let chunk = c.args.chunk.now in
    let at = c.args.at in
    run-goes-if c.args.self.now w h chunk (slice_range chunk at to) at c.add.new.self c.requires.even.0
    (run-plain chunk at to c.scan_string-to.ensures.stop)
    (run-whole chunk at to c.scan_string-to.ensures.within.0 c.scan_string-to.ensures.within.1)
    c.add.result (c.add.ensures.taken h.decoded h.holds) c.add.ensures.within
