use Rattle.filter.proofs.Pieces.{SoFar}
use Rattle.filter.proofs.line.object_of.Given as goal

abbrev pub invariant-loop-index : goal.invariant-loop-index
invariant-loop-index l = SoFar l.members l.line l.index l.text.items
