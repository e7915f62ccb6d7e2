use Rattle.jiter_incremental.proofs.Words.{◌∙◌, ap, sym, slice_index, begins_part, view}
use Rattle.jiter_incremental.proofs.Arms.{awaits-item, awaits-key, before-some}
use Rattle.jiter_incremental.proofs.reader.Reader.between.Goals as goal

pub no_part-requires-clause-none : goal.no_part-requires-clause-none
no_part-requires-clause-none c = λ b xs whole.
    let byte = slice_index c.args.chunk.now c.args.self.now.at in
    ap (λ k. begins_part k byte) (sym (c.kind_of-kind.ensures b xs whole)) ∙ sym c.begins_part.ensures
    ∙ c.if-not-begins_part.true

pub value-requires-clause-awaited : goal.value-requires-clause-awaited
value-requires-clause-awaited c =
    let i = c.args.self.now in
    let v = view c.args.slot.now in
    let level = c.args.level in
    let chunk = c.args.chunk.now in
    let byte = slice_index chunk i.at in
    awaits-item level chunk i v c.requires.here c.requires.token
    (before-some level chunk i v c.requires.here c.requires.token c.requires.before) c.requires.before c.requires.other
    (λ b xs whole.
    ap (λ k. begins_part k byte) (sym (c.kind_of-kind.ensures b xs whole)) ∙ sym c.begins_part.ensures
    ∙ c.if-not-begins_part.false)
    (λ b xs whole. sym (c.kind_of-kind.ensures b xs whole) ∙ c.in-Array.is)

pub key-requires-clause-awaited : goal.key-requires-clause-awaited
key-requires-clause-awaited c =
    let i = c.args.self.now in
    let v = view c.args.slot.now in
    let level = c.args.level in
    let chunk = c.args.chunk.now in
    let byte = slice_index chunk i.at in
    awaits-key level chunk i v c.requires.here c.requires.token
    (before-some level chunk i v c.requires.here c.requires.token c.requires.before) c.requires.before c.requires.other
    (λ b xs whole.
    ap (λ k. begins_part k byte) (sym (c.kind_of-kind.ensures b xs whole)) ∙ sym c.begins_part.ensures
    ∙ c.if-not-begins_part.false)
    (λ b xs whole. sym (c.kind_of-kind.ensures b xs whole) ∙ c.in-Object.is)
