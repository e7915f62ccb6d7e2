use Rattle.std.proofs.Common.{arith}
use Rattle.json_lines.proofs.Feeds.{feeds-more}
use Rattle.json_lines.proofs.progress.line_feeds.Goals as goal

pub overflow_add-feeds : goal.overflow_add-feeds
overflow_add-feeds c =
    let more = feeds-more c.args.bytes.now c.loop-byte.feeds c.loop-byte.byte-index c.from-feeds.result c.loop-byte-test.true c.from-feeds.ensures c.loop-byte.invariant in
    omega (arith, more.0)

pub loop-byte-preserved : goal.loop-byte-preserved
loop-byte-preserved c =
    feeds-more c.args.bytes.now c.loop-byte.feeds c.loop-byte.byte-index c.from-feeds.result c.loop-byte-test.true c.from-feeds.ensures c.loop-byte.invariant
