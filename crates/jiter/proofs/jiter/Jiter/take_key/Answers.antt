use Rattle.jiter.proofs.Words.{refl, ap, text_view, whole, ReaderState}
use Rattle.jiter.proofs.FastReplies.{key-read}
use Rattle.jiter.proofs.ReadLaws.{read-never}
use Rattle.jiter.proofs.jiter.Jiter.take_key.Goals as goal

pub returns-clause-reads : goal.returns-clause-reads
returns-clause-reads c =
    let text = c.in_ok-text.text in
    let read = c.in_ok-text.ensures.reads in
    let past = c.past_colon-2 in
    read-never _ (key-read _ c.args.self.now past.result whole c.args.at (text_view text) _ _ c.self.view_is c.requires.0
    read.moves read.value (ap (λ (v : ReaderState). v.position) c.past_colon.view_is) refl past.ensures.key
    (past.ensures.reads (text_view text)))
