use Rattle.std.proofs.Common.{length}
use Rattle.jiter_c.proofs.values.+stepped.Given as goal

abbrev pub decreases-stepped : goal.decreases-stepped
decreases-stepped a = length a.steps.now
