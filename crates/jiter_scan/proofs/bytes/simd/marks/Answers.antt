use Rattle.jiter_scan.proofs.Words.{zip2_splat, is_no_mark}
use Rattle.jiter_scan.proofs.Lanes.{if_equal, list_all-chosen, marked-byte}
use Rattle.jiter_scan.proofs.bytes.simd.marks.Goals as goal

pub returns : goal.returns
returns c =
    let v = c.args.v in
    list_all-chosen _ is_no_mark v _ c.fits-v.0 (zip2_splat if_equal v 16 92 c.fits-v.0) marked-byte
