use Rattle.jiter_scan.proofs.Words.{◌+◌, ◌-◌, ◌%◌, refl, zip2_splat, zip2_of_maps, splat_is_map, is_digit, less_zero}
use Rattle.jiter_scan.proofs.Lanes.{if_at_most, failing-lanes}
use Rattle.jiter_scan.proofs.bytes.decimal.no_digits.Goals as goal

pub returns : goal.returns
returns c =
    let v = c.args.v in
    let long = c.fits-v.0 in
    failing-lanes _ is_digit v _ long c.fits-v.1
    (zip2_of_maps if_at_most (λ _. 10) less_zero v (splat_is_map v 16 10 long)
    (zip2_splat (λ a b. (a + (256 - b)) % 256) v 16 48 long)) refl
