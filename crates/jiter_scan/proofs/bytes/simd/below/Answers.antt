use Rattle.jiter_scan.proofs.Words.{zip2_splat, leb}
use Rattle.jiter_scan.proofs.Lanes.{if_less, list_all-chosen, below-byte}
use Rattle.jiter_scan.proofs.bytes.simd.below.Goals as goal

pub returns : goal.returns
returns c =
    let v = c.args.v in
    let n = c.args.least in
    list_all-chosen _ (leb n) v _ c.fits-v.0 (zip2_splat if_less v 16 n c.fits-v.0) (below-byte n)
