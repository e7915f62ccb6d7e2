use Rattle.jiter_incremental.proofs.Words.{◌≡◌, ◌≤◌, ◌+◌, ◌∙◌, ap, arith, length, take, take_all}
use Rattle.jiter_incremental.proofs.LinePlaces.{at_start, end-of-all, end-within, place-after, place-stays, place_in, position-found}
use Rattle.jiter_incremental.proofs.line_index.position_in.Goals as goal
use Rattle.jiter_incremental.proofs.line_index.position_in.Goals.{then-index-size, else-index-size, then-feed-end, else-feed-end}

pub loop-feed-preserved : goal.loop-feed-preserved
loop-feed-preserved c =
    let i = c.loop-feed.invariant in
    let feeds = c.args.feeds.now in
    let end = c.if-index-size.end in
    elim c.if-feed-end.branch [
      | then-feed-end w ↦ record {
        place = rw w.line-is (rw w.begin-is
            (place-after end at_start _ feeds c.loop-feed.feed-index c.loop-feed-test.true i.place w.if-feed-end.true));
        line_low = omega arith;
        begin_low = omega arith;
      }
      | else-feed-end w ↦ record {
        place = rw w.line-is (rw w.begin-is
            (place-stays end at_start _ feeds c.loop-feed.feed-index c.loop-feed-test.true i.place w.if-feed-end.false));
        line_low = omega arith;
        begin_low = omega arith;
      }
    ]

pub returns : goal.returns
returns c = λ t long fed.
    let i = c.loop-feed.invariant in
    let end = c.if-index-size.end in
    let through : (end ≤ length t) × (take (c.args.index + 1) t ≡ take end t) = elim c.if-index-size.branch [
      | then-index-size w ↦ end-within t c.args.size c.args.index end long w.if-index-size.true w.end-is
      | else-index-size w ↦ end-of-all t c.args.size c.args.index end long w.if-index-size.false w.end-is
    ] in
    let all = take_all c.loop-feed.feed-index c.args.feeds.now c.loop-feed-test.false ∙ fed in
    c.new.ensures
    ∙ position-found t c.args.index end _ _ through.0 through.1 (i.place ∙ ap (place_in end at_start) all)
