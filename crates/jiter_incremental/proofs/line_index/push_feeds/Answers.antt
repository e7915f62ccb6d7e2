use Rattle.jiter_incremental.proofs.LinePlaces.{feed-noted, no-feed}
use Rattle.jiter_incremental.proofs.line_index.push_feeds.Goals as goal
use Rattle.jiter_incremental.proofs.line_index.push_feeds.Goals.{then-byte-eq10+in_ok-push, else-byte-eq10}

pub loop-offset-preserved : goal.loop-offset-preserved
loop-offset-preserved c =
    let i = c.loop-offset.invariant in
    let chunk = c.args.chunk.now in
    elim c.if-byte-eq10.branch [
      | then-byte-eq10+in_ok-push w ↦ rw w.feeds-is (rw w.in_ok-push.ensures.ok (feed-noted c.args.begin chunk c.loop-offset.offset
          c.loop-offset-test.true _ _ i w.if-byte-eq10.true))
      | else-byte-eq10 w ↦ rw w.feeds-is
          (no-feed c.args.begin chunk c.loop-offset.offset c.loop-offset-test.true _ _ i w.if-byte-eq10.false)
    ]
