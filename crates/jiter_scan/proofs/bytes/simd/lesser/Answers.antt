use Rattle.jiter_scan.proofs.Words.{sym, ◌∙◌}
use Rattle.jiter_scan.proofs.Lanes.{list_all-lesser}
use Rattle.jiter_scan.proofs.bytes.simd.lesser.Goals as goal

pub returns : goal.returns
returns c = λ n. list_all-lesser n c.args.a c.args.b (c.fits-a.0 ∙ sym c.fits-b.0)
