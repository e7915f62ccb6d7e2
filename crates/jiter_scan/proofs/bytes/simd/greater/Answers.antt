use Rattle.jiter_scan.proofs.Words.{sym, ◌∙◌}
use Rattle.jiter_scan.proofs.Lanes.{list_all-greater}
use Rattle.jiter_scan.proofs.bytes.simd.greater.Goals as goal

pub returns : goal.returns
returns c = list_all-greater c.args.a c.args.b (c.fits-a.0 ∙ sym c.fits-b.0)
