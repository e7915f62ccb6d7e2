use Rattle.jiter_scan.proofs.Words.{zip2_splat}
use Rattle.std.specs.Int.Bits.{bit_xor}
use Rattle.jiter_scan.proofs.bytes.simd.flip.Goals as goal

pub returns : goal.returns
returns c = zip2_splat bit_xor c.args.v 16 c.args.bits c.fits-v.0
