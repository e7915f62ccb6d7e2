use Rattle.std.proofs.Common.{◌-◌, ◌≤◌, length}
use Rattle.std.specs.Prelude.{string_bytes}
use Rattle.jiter_walk.proofs.Leading.{Leads}
use Rattle.jiter_walk.proofs.path.path_at.Given as goal

abbrev pub invariant-loop-path : goal.invariant-loop-path
invariant-loop-path l = (l.at ≤ length l.bytes) × Leads l.bytes l.index l.at (string_bytes l.path)

abbrev pub decreases-loop-path : goal.decreases-loop-path
decreases-loop-path l = length l.bytes - l.at
