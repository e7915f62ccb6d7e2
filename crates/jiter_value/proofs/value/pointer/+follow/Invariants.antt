use Rattle.jiter_value.proofs.Words.{length}
use Rattle.jiter_value.proofs.value.pointer.+follow.Given as goal

abbrev pub decreases-follow : goal.decreases-follow
decreases-follow a = length a.path.now
