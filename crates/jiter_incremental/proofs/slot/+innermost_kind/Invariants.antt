use Rattle.jiter_incremental.proofs.slot.+innermost_kind.Given as goal

-- one container fewer is left
abbrev pub decreases-innermost_kind : goal.decreases-innermost_kind
decreases-innermost_kind l = l.depth
