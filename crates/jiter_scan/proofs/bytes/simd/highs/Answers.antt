use Rattle.jiter_scan.proofs.Words.{refl, sym, map-id, zip2_of_maps, splat_is_map, is_ascii}
use Rattle.jiter_scan.proofs.Lanes.{if_at_most, failing-lanes}
use Rattle.jiter_scan.proofs.bytes.simd.highs.Goals as goal

pub returns : goal.returns
returns c =
    let v = c.args.v in
    let long = c.fits-v.0 in
    failing-lanes _ is_ascii v _ long c.fits-v.1
    (zip2_of_maps if_at_most (λ _. 128) (λ x. x) v (splat_is_map v 16 128 long) (sym (map-id v))) refl
