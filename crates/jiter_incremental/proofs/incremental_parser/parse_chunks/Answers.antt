use Rattle.jiter_incremental.proofs.Words.{◌∙◌, ap, arith, subst, sym, take, take_all, HasReceived}
use Rattle.jiter_incremental.proofs.Pushing.{bytes_of, never-refused, chunks-more, chunks-refused, refused-promised}
use Rattle.jiter_incremental.proofs.incremental_parser.parse_chunks.Goals as goal

pub loop-chunk-preserved : goal.loop-chunk-preserved
loop-chunk-preserved c =
    let i = c.loop-chunk.invariant in
    let chunks = c.args.chunks.now in
    let more = chunks-more chunks c.loop-chunk.chunk-index _ c.loop-chunk-test.true in
    let ok = c.in-Ok.ensures in
    record {
      received = subst (HasReceived c.push.new.self) (sym more) (ok.ok _ i.received);
      names = ap (λ s. s.allow_inf_nan) ok.settings ∙ i.names;
      fits = omega (arith, ok.position, ok.fits);
    }

pub returns-in-Err-clause-parses : goal.returns-in-Err-clause-parses
returns-in-Err-clause-parses c = λ few.
    let chunks = c.args.chunks.now in
    let i = c.loop-chunk.invariant in
    let at = c.push.new.self.position in
    let wanted = c.in-Err.ensures.wanted (bytes_of (take c.loop-chunk.chunk-index chunks)) i.received in
    rw c.position.ensures.position
    (refused-promised c.args.allow_inf_nan (bytes_of chunks) at
    (chunks-refused chunks c.loop-chunk.chunk-index _ c.loop-chunk-test.true c.loop-chunk.incremental_parser.position at
    i.received.position few wanted))

pub returns-clause-parses : goal.returns-clause-parses
returns-clause-parses c = λ few.
    let chunks = c.args.chunks.now in
    let i = c.loop-chunk.invariant in
    let all = ap bytes_of (take_all c.loop-chunk.chunk-index chunks (omega (arith, c.loop-chunk-test.false))) in
    let t = bytes_of chunks in
    never-refused c.args.allow_inf_nan t c.finish.result
    (rw (← i.names) (c.finish.ensures t (subst (HasReceived c.loop-chunk.incremental_parser) all i.received)))
