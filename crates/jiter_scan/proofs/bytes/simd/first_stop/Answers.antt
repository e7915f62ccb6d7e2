use Rattle.jiter_scan.proofs.Words.{◌≡◌, ◌∙◌, ℕ, ◌&&◌, Bool, true, false, ap, arith, refl, sym, nat_le, w64}
use Rattle.jiter_scan.proofs.Words.{trailing_zeros, trailing_le, trailing_of_zero}
use Rattle.jiter_scan.proofs.bytes.simd.first_stop.Goals as goal

-- a mask without a bit is clear below any other's lowest
clear : (found high : ℕ) → high ≡ 0 → nat_le (trailing_zeros w64 found) (trailing_zeros w64 high) ≡ true
clear found high none = grind (arith, ap (trailing_zeros w64) none ∙ trailing_of_zero 64, trailing_le 64 found)

and-true : (a b : Bool) → b ≡ true → a ≡ (a && b)
and-true true b h = sym h
and-true false b h = refl

pub returns-then-high-eq0-clause-ascii : goal.returns-then-high-eq0-clause-ascii
returns-then-high-eq0-clause-ascii c =
    and-true c.args.clean _ (clear c.args.found c.args.high c.if-high-eq0.true)
