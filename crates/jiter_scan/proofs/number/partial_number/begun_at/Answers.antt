use Rattle.jiter_scan.proofs.Words.{get_or, slice_get-get_or}
use Rattle.jiter_scan.proofs.NumberParts.{begins-there}
use Rattle.jiter_scan.proofs.number.partial_number.begun_at.Goals as goal

pub returns : goal.returns
returns c =
    let t = c.args.chunk.now in
    let at = c.args.at in
    let first = c.first_stage.ensures in
    let got = c.stages_end-stage.result in
    begins-there c.first_stage.result got.0 t at (get_or t at 0) got.1 (slice_get-get_or t at 0 c.requires.within) first.leads
    first.whole first.byte.0 first.byte.1 c.stages_end-stage.ensures.goes
