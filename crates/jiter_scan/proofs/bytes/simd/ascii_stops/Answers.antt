use Rattle.jiter_scan.proofs.Words.{refl, splat_is_map, zip2_splat, zip2_of_maps, bit_or, is_plain_ascii, flipped}
use Rattle.jiter_scan.proofs.Lanes.{if_equal, if_less, failing-lanes}
use Rattle.jiter_scan.proofs.bytes.simd.ascii_stops.Goals as goal

pub returns : goal.returns
returns c =
    let v = c.args.v in
    let long = c.fits-v.0 in
    let low = zip2_of_maps if_less (flipped 130) (λ _. 161) v c.flip.ensures (splat_is_map v 16 161 long) in
    failing-lanes _ is_plain_ascii v _ long c.fits-v.1
    (zip2_of_maps bit_or _ _ v low (zip2_splat if_equal v 16 92 long)) refl
