use Rattle.jiter_incremental.proofs.Words.{◌+◌, ◌∙◌, ap, refl, subst, sym, slice_index, trailing_comma, closer_of}
use Rattle.jiter_incremental.proofs.Words.{closed, stuck, view, Steps, refused}
use Rattle.jiter_scan.specs.declared.errors.FaultKind.TheVariants as fault_of
use Rattle.jiter_incremental.proofs.Arms.{before-some, container-ends, part-refused}
use Rattle.jiter_incremental.proofs.Between.{RowIs, between-of, next-of, row-first-end, row-next-end, row-no-part}
use Rattle.jiter_incremental.proofs.reader.Reader.no_part.Goals as goal

pub returns-then-byte-closer-clause-steps : goal.returns-then-byte-closer-clause-steps
returns-then-byte-closer-clause-steps c =
    let i = c.args.self.now in
    let v = view c.args.slot.now in
    let level = c.args.level in
    let chunk = c.args.chunk.now in
    let is = c.refuse.ensures ∙ ap (refused i fault_of.KeyMustBeAString) c.position.ensures in
    let some = before-some level chunk i v c.requires.here c.requires.token c.requires.before in
    subst (λ j. Steps level chunk i v j v 1) (sym is)
    (part-refused level chunk i v c.requires.here c.requires.token some i.awaits refl
    (between-of i.awaits c.requires.before) c.requires.other fault_of.KeyMustBeAString refl
    (λ b xs whole.
    row-no-part i.awaits b (slice_index chunk i.at) c.requires.before (c.requires.none b xs whole)
    (λ same.
    c.if-byte-closer.true (same ∙ sym (c.closer-closer.ensures ∙ ap closer_of (c.kind_of.ensures b xs whole))))))

pub returns-then-is_first-clause-steps : goal.returns-then-is_first-clause-steps
returns-then-is_first-clause-steps c =
    let i = c.args.self.now in
    let v = view c.args.slot.now in
    let level = c.args.level in
    let chunk = c.args.chunk.now in
    let byte = slice_index chunk i.at in
    let some = before-some level chunk i v c.requires.here c.requires.token c.requires.before in
    subst (λ j. Steps level chunk i v j v 1) (sym c.end_container.ensures)
    (container-ends level chunk i v c.requires.here c.requires.token some i.awaits refl
    (between-of i.awaits c.requires.before) c.requires.other
    (λ b xs whole.
    subst (λ a. RowIs a byte (λ t j. closed (j + 1)) b) (sym (c.is_first.ensures.first c.if-is_first.true))
    (row-first-end b byte (c.requires.none b xs whole)
    (c.if-byte-closer.false ∙ c.closer-closer.ensures ∙ ap closer_of (c.kind_of.ensures b xs whole)))))

pub returns-clause-steps : goal.returns-clause-steps
returns-clause-steps c =
    let i = c.args.self.now in
    let v = view c.args.slot.now in
    let level = c.args.level in
    let chunk = c.args.chunk.now in
    let byte = slice_index chunk i.at in
    let is = c.refuse-2.ensures ∙ ap (refused i fault_of.TrailingComma) c.position-2.ensures in
    let some = before-some level chunk i v c.requires.here c.requires.token c.requires.before in
    subst (λ j. Steps level chunk i v j v 1) (sym is)
    (part-refused level chunk i v c.requires.here c.requires.token some i.awaits refl
    (between-of i.awaits c.requires.before) c.requires.other fault_of.TrailingComma refl
    (λ b xs whole.
    subst (λ a. RowIs a byte (λ t j. stuck trailing_comma j) b) (sym (next-of i.awaits c.requires.before (c.is_first.ensures.other c.if-is_first.false)))
    (row-next-end b byte (c.requires.none b xs whole)
    (c.if-byte-closer.false ∙ c.closer-closer.ensures ∙ ap closer_of (c.kind_of.ensures b xs whole)))))
