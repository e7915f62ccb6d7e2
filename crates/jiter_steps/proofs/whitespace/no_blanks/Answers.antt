use Rattle.jiter_steps.proofs.Words.{ℕ, refl, is_blank, bit_and, zip2_splat, zip2_of_maps, failing-lanes}
use Rattle.jiter_steps.proofs.whitespace.no_blanks.Goals as goal

pub returns : goal.returns
returns c =
    let v = c.args.v in
    let long = c.fits-v.0 in
    let tabs = zip2_of_maps bit_and _ _ v (zip2_splat {Y = ℕ} _ v 16 32 long) (zip2_splat {Y = ℕ} _ v 16 9 long) in
    let feeds = zip2_of_maps bit_and _ _ v tabs (zip2_splat {Y = ℕ} _ v 16 10 long) in
    failing-lanes _ is_blank v _ long c.fits-v.1
    (zip2_of_maps bit_and _ _ v feeds (zip2_splat {Y = ℕ} _ v 16 13 long)) refl
