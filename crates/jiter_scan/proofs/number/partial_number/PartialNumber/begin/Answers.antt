use Rattle.jiter_scan.proofs.Words.{◌++◌, ◌∙◌, ap, arith, slice_range, on_ok_weaker}
use Rattle.jiter_scan.proofs.NumberParts.{held-first}
use Rattle.jiter_scan.proofs.number.partial_number.PartialNumber.begin.Goals as goal

pub take-requires-clause-within : goal.take-requires-clause-within
take-requires-clause-within c = (omega (arith, c.requires.begun.ahead), c.requires.begun.within)

pub take-requires-clause-ascii : goal.take-requires-clause-ascii
take-requires-clause-ascii c = c.requires.begun.ascii

pub returns-clause-held : goal.returns-clause-held
returns-clause-held c =
    let t = c.args.chunk.now in
    let at = c.args.at in
    let e = c.args.end in
    let m = c.take.new.self in
    on_ok_weaker c.take.result
    (λ h. held-first m c.args.stage t at e c.requires.begun h.0 (h.1 ∙ ap (λ x. x ++ slice_range t at e) c.requires.none))
    c.take.ensures.taken
