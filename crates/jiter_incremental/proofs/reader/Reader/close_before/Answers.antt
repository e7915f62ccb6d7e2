use Rattle.jiter_incremental.proofs.Words.{◌-◌, ◌∙◌, ap, refl, subst, sym, comma_kind_of, view, Steps, after_level}
use Rattle.jiter_incremental.proofs.Words.{noted, refused, Reader}
use Rattle.jiter_incremental.specs.declared.reader.Awaits.TheVariants as awaits
use Rattle.jiter_incremental.proofs.Arms.{between-some, container-misses, container-refused, comma-between}
use Rattle.jiter_incremental.proofs.reader.Reader.close_before.Goals as goal

pub returns-then-not-is_active-clause-steps : goal.returns-then-not-is_active-clause-steps
returns-then-not-is_active-clause-steps c =
    let i = c.args.self.now in
    let v = view c.args.slot.now in
    let level = c.args.level in
    let chunk = c.args.chunk.now in
    let kind = c.comma_kind-kind.result in
    let is = c.refuse.ensures ∙ ap (refused i kind) c.position.ensures in
    let some = between-some level chunk i v c.requires.here c.requires.token (comma-between i.awaits c.requires.comma) in
    subst (λ j. Steps level chunk i v j v 1) (sym is)
    (container-refused level chunk i v c.requires.here c.requires.token some awaits.Comma c.requires.comma tt
    c.requires.other kind refl c.requires.none
    (λ b xs whole.
    (c.requires.missing b xs whole, c.comma_kind-kind.ensures ∙ ap comma_kind_of (c.kind_of.ensures b xs whole)))
    (sym c.is_active.ensures ∙ c.if-not-is_active.true))

pub returns-clause-steps : goal.returns-clause-steps
returns-clause-steps c =
    let i = c.args.self.now in
    let v = view c.args.slot.now in
    let level = c.args.level in
    let chunk = c.args.chunk.now in
    let kind = c.comma_kind-kind.result in
    let noted-is = c.note.ensures ∙ ap (noted i kind) c.position-2.ensures in
    let ended = λ (r : Reader). record r { depth = r.depth - 1; awaits = after_level (r.depth - 1) } in
    let is = c.end_container.ensures ∙ ap ended noted-is in
    let some = between-some level chunk i v c.requires.here c.requires.token (comma-between i.awaits c.requires.comma) in
    subst (λ j. Steps level chunk i v j v 0) (sym is)
    (container-misses level chunk i v c.requires.here c.requires.token some awaits.Comma c.requires.comma tt
    c.requires.other kind refl c.requires.none
    (λ b xs whole.
    (c.requires.missing b xs whole, c.comma_kind-kind.ensures ∙ ap comma_kind_of (c.kind_of.ensures b xs whole)))
    (sym c.is_active.ensures ∙ c.if-not-is_active.false))
