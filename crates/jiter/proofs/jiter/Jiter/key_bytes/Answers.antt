use Rattle.jiter.proofs.Words.{refl, ap, raw_view, raw, ReaderState}
use Rattle.jiter.proofs.FastReplies.{key-read}
use Rattle.jiter.proofs.jiter.Jiter.key_bytes.Goals as goal

pub returns-in_ok-content-in_default-Part-clause-reads : goal.returns-in_ok-content-in_default-Part-clause-reads
returns-in_ok-content-in_default-Part-clause-reads c =
    let content = c.in_ok-content-in_default-Part.content in
    let read = c.in_ok-content-in_default-Part.ensures.reads in
    let past = c.past_colon-in_default-Part in
    rw c.in_default-Part.is-1 (key-read _ c.args.self.now past.result raw c.args.found.0 (raw_view content) _ _
    c.self.view_is c.requires.within.0 read.moves read.value (ap (λ (v : ReaderState). v.position) c.past_colon.view_is) refl past.ensures.key
    (past.ensures.reads (raw_view content)))
