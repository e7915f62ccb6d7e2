use Rattle.jiter_incremental.proofs.Words.{◌-◌}
use Rattle.jiter_incremental.proofs.reader.Reader.+innermost.Given as goal

-- one container fewer is left
abbrev pub decreases-innermost : goal.decreases-innermost
decreases-innermost l = l.self.now.depth - l.level
