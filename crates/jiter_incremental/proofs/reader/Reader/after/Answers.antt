use Rattle.jiter_incremental.proofs.Words.{◌<◌, ◌∙◌, ap, arith, refl, subst, sym, slice_index, closer_of, view, Steps}
use Rattle.jiter_incremental.specs.declared.reader.Awaits.TheVariants as awaits
use Rattle.jiter_incremental.proofs.Arms.{comma-of, comma-passed, container-ends, trailed}
use Rattle.jiter_incremental.proofs.Between.{row-end}
use Rattle.jiter_incremental.proofs.reader.Reader.after.Goals as goal

pub returns-then-level-eq0-clause-steps : goal.returns-then-level-eq0-clause-steps
returns-then-level-eq0-clause-steps c =
    trailed c.args.level c.args.chunk.now c.args.self.now (view c.args.slot.now) c.requires.here c.requires.token
    c.trail.new.self c.if-level-eq0.true c.requires.after c.requires.other c.trail.ensures.still c.trail.ensures.same
    c.trail.ensures.taken

pub returns-then-byte-eq44-clause-steps : goal.returns-then-byte-eq44-clause-steps
returns-then-byte-eq44-clause-steps c =
    let i = c.args.self.now in
    let v = view c.args.slot.now in
    let level = c.args.level in
    let chunk = c.args.chunk.now in
    let some : 0 < level = omega (arith, c.if-level-eq0.false) in
    comma-passed level chunk i v c.requires.here c.requires.token some awaits.Comma
    (comma-of level chunk i v c.requires.here c.requires.token some c.requires.after) tt c.requires.other refl
    c.if-byte-eq44.true

pub returns-then-byte-closer-clause-steps : goal.returns-then-byte-closer-clause-steps
returns-then-byte-closer-clause-steps c =
    let i = c.args.self.now in
    let v = view c.args.slot.now in
    let level = c.args.level in
    let chunk = c.args.chunk.now in
    let some : 0 < level = omega (arith, c.if-level-eq0.false) in
    subst (λ j. Steps level chunk i v j v 1) (sym c.end_container.ensures)
    (container-ends level chunk i v c.requires.here c.requires.token some awaits.Comma
    (comma-of level chunk i v c.requires.here c.requires.token some c.requires.after) tt c.requires.other
    (λ b xs whole.
    row-end b (slice_index chunk i.at)
    (c.if-byte-closer.true ∙ c.closer-closer.ensures ∙ ap closer_of (c.kind_of.ensures b xs whole))))
