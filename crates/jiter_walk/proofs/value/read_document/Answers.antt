use Rattle.std.proofs.Common.{refl}
use Rattle.jiter_walk.proofs.Coming.{document-comes, finish-not_refused}
use Rattle.jiter_walk.proofs.Documents.{readable}
use Rattle.jiter_walk.proofs.Passing.{error-returned}
use Rattle.jiter_walk.proofs.value.read_document.Goals as goal

pub returns-in_err-value-clause-document : goal.returns-in_err-value-clause-document
returns-in_err-value-clause-document g c = λ n d.
    let w = rw c.new-jiter.ensures at c.in_err-value.ensures in
    error-returned _ _ c.in_err-value.field-0.0 _ c.from_residual.ensures.1
    (w.value n (document-comes c.args.bytes.now n d))

pub returns-in_err-finish-clause-document : goal.returns-in_err-finish-clause-document
returns-in_err-finish-clause-document g c = λ n d.
    let w = rw c.new-jiter.ensures at c.in_ok-value.ensures in
    error-returned _ _ _ _ c.from_residual-in_err-finish.ensures.1
    (λ bytes. absurd (finish-not_refused c.args.bytes.now n d _ w.moves (w.place n (document-comes c.args.bytes.now n d)) _ _ _
    c.in_err-finish.ensures.reads.value))

pub returns-clause-document : goal.returns-clause-document
returns-clause-document g c = λ n d.
    let w = rw c.new-jiter.ensures at c.in_ok-value.ensures in
    w.value n (document-comes c.args.bytes.now n d)

pub returns-clause-readable : goal.returns-clause-readable
returns-clause-readable g c =
    let w = rw c.new-jiter.ensures at c.in_ok-value.ensures in
    readable c.args.bytes.now _ _ w.moves (w.reads refl) c.in_ok-finish.ensures.reads.value

pub returns-clause-held : goal.returns-clause-held
returns-clause-held g c = λ n d.
    let w = rw c.new-jiter.ensures at c.in_ok-value.ensures in
    g.V.Value.meaning.shows c.args.bytes.now n _ (w.value n (document-comes c.args.bytes.now n d))
