use Rattle.jiter_steps.proofs.Words.{ap, arith, length}
use Rattle.jiter_steps.proofs.Chunks.OpenEscapes.{cut_short}
use Rattle.jiter_steps.proofs.partial_escape.PartialEscape.cut.Goals as goal

pub with-requires : goal.with-requires
with-requires c = omega (arith, cut_short c.args.bytes.now c.requires, ap length c.new.ensures)
