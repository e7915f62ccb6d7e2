use Rattle.jiter_incremental.proofs.Words.{◌≡◌, ◌++◌, take, feeds_from}
use Rattle.jiter_incremental.proofs.line_index.push_feeds.Given as goal

abbrev pub invariant-loop-offset : goal.invariant-loop-offset
invariant-loop-offset l = l.feeds.items ≡ l.initial.feeds.items ++ feeds_from l.begin (take l.offset l.chunk)
