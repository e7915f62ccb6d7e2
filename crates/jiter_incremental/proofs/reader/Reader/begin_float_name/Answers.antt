use Rattle.jiter_incremental.proofs.Words.{◌∙◌, ap, subst, sym, ne_eqb, slice_index, view, WordBegins, Steps, refused}
use Rattle.jiter_scan.specs.declared.errors.FaultKind.TheVariants as fault_of
use Rattle.jiter_incremental.specs.declared.names.WordValue.TheVariants as name
use Rattle.jiter_incremental.proofs.Documents.Tokens.{infinity-begins, infinity-first, nan-begins}
use Rattle.jiter_incremental.proofs.NumberBegins.{name-of, name-refused}
use Rattle.jiter_incremental.proofs.Placing.{word-step}
use Rattle.jiter_incremental.proofs.reader.Reader.begin_float_name.Goals as goal

pub returns-then-not-self-clause-steps : goal.returns-then-not-self-clause-steps
returns-then-not-self-clause-steps c =
    let i = c.args.self.now in
    let level = c.args.level in
    let chunk = c.args.chunk.now in
    let v = view c.args.slot.now in
    let byte = slice_index chunk i.at in
    let is = c.refuse.ensures ∙ ap (refused i fault_of.ExpectedSomeValue) c.position.ensures in
    let k = name-of byte c.requires.starts c.requires.named in
    subst (λ j. Steps level chunk i v j v 1) (sym is)
    (name-refused level chunk i v c.requires.here c.requires.token c.requires.awaited c.requires.other c.requires.low
    k.0 k.1 c.if-not-self.true)

pub returns-then-chunk-self-eq78-clause-steps : goal.returns-then-chunk-self-eq78-clause-steps
returns-then-chunk-self-eq78-clause-steps c =
    let i = c.args.self.now in
    let level = c.args.level in
    let chunk = c.args.chunk.now in
    let v = view c.args.slot.now in
    let is = c.if-chunk-self-eq78.true in
    subst (λ j. Steps level chunk i v j v 1) (sym c.begin_word.ensures.is)
    (word-step level chunk i v c.requires.here c.requires.token c.requires.awaited c.requires.other name.NaN
    c.begin_word.new.self.word c.requires.low c.requires.starts c.if-not-self.false
    (subst (WordBegins name.NaN) (sym is) nan-begins.allowed) c.begin_word.ensures.word.0 c.begin_word.ensures.word.1)

pub returns-else-chunk-self-eq78-clause-steps : goal.returns-else-chunk-self-eq78-clause-steps
returns-else-chunk-self-eq78-clause-steps c =
    let i = c.args.self.now in
    let level = c.args.level in
    let chunk = c.args.chunk.now in
    let v = view c.args.slot.now in
    let byte = slice_index chunk i.at in
    let is = infinity-first byte c.requires.starts c.requires.named (ne_eqb byte 78 c.if-chunk-self-eq78.false) in
    subst (λ j. Steps level chunk i v j v 1) (sym c.begin_word-else-chunk-self-eq78.ensures.is)
    (word-step level chunk i v c.requires.here c.requires.token c.requires.awaited c.requires.other name.Infinity
    c.begin_word-else-chunk-self-eq78.new.self.word c.requires.low c.requires.starts c.if-not-self.false
    (subst (WordBegins name.Infinity) (sym is) infinity-begins.allowed) c.begin_word-else-chunk-self-eq78.ensures.word.0
    c.begin_word-else-chunk-self-eq78.ensures.word.1)
