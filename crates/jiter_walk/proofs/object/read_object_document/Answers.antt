use Rattle.std.proofs.Common.{refl}
use Rattle.jiter_walk.specs.TableLaw.{object-shows}
use Rattle.jiter_walk.proofs.Coming.{document-comes, finish-not_refused}
use Rattle.jiter_walk.proofs.Documents.{readable}
use Rattle.jiter_walk.proofs.Passing.{error-returned}
use Rattle.jiter_walk.proofs.object.read_object_document.Goals as goal

pub returns-in_err-whole-clause-document : goal.returns-in_err-whole-clause-document
returns-in_err-whole-clause-document g c = λ n d.
    let w = rw c.new-jiter.ensures at c.in_err-whole.ensures in
    error-returned _ _ c.in_err-whole.field-0.0 _ c.from_residual.ensures.1
    (w.value n (document-comes c.args.bytes.now n d))

pub returns-in_err-finish-clause-document : goal.returns-in_err-finish-clause-document
returns-in_err-finish-clause-document g c = λ n d.
    let w = rw c.new-jiter.ensures at c.in_ok-whole.ensures in
    error-returned _ _ _ _ c.from_residual-in_err-finish.ensures.1
    (λ bytes. absurd (finish-not_refused c.args.bytes.now n d _ w.moves (w.place n (document-comes c.args.bytes.now n d)) _ _ _
    c.in_err-finish.ensures.reads.value))

pub returns-clause-document : goal.returns-clause-document
returns-clause-document g c = λ n d.
    let w = rw c.new-jiter.ensures at c.in_ok-whole.ensures in
    w.value n (document-comes c.args.bytes.now n d)

pub returns-clause-readable : goal.returns-clause-readable
returns-clause-readable g c =
    let w = rw c.new-jiter.ensures at c.in_ok-whole.ensures in
    readable c.args.bytes.now _ _ w.moves (w.reads refl) c.in_ok-finish.ensures.reads.value

pub returns-clause-held : goal.returns-clause-held
returns-clause-held g c = λ n d.
    let w = rw c.new-jiter.ensures at c.in_ok-whole.ensures in
    object-shows g.O.Object.table c.requires.apart c.args.bytes.now n _ (w.value n (document-comes c.args.bytes.now n d))
