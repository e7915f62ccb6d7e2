use Rattle.jiter_incremental.proofs.Words.{◌∙◌, ◌∷◌, [], ap, refl, sym, subst, ◌++◌, HasTakenIn, any_bytes}
use Rattle.jiter_incremental.proofs.Words.{between_tokens, with_byte, document, noted, refused}
use Rattle.jiter_scan.specs.declared.errors.FaultKind.TheVariants as fault_of
use Rattle.jiter_incremental.proofs.Documents.{ended, follows-byte, trailing-ended, trailing-noted}
use Rattle.jiter_incremental.proofs.reader.Reader.trail.Goals as goal

pub returns-then-is_active-clause-taken : goal.returns-then-is_active-clause-taken
returns-then-is_active-clause-taken c = λ byte t v s at left none other.
    let i = c.args.self.now in
    let is = c.note.ensures ∙ ap (noted i fault_of.TrailingCharacters) c.position.ensures in
    let d = document i v in
    subst (λ j. HasTakenIn any_bytes (document j v) (t ++ byte ∷ [])) (sym is)
    (trailing-noted d byte t s at left none other (sym c.is_active.ensures ∙ c.if-is_active.true)
    (document (noted i fault_of.TrailingCharacters d.position) v) refl)

pub returns-clause-taken : goal.returns-clause-taken
returns-clause-taken c = λ byte t v s at left none other.
    let i = c.args.self.now in
    let kind = fault_of.TrailingCharacters in
    let d = document i v in
    let is = c.refuse.ensures ∙ ap (refused i kind) c.position-2.ensures in
    subst (λ j. HasTakenIn any_bytes (document j v) (t ++ byte ∷ [])) (sym is)
    (ended (with_byte byte) any_bytes d t (byte ∷ []) (between_tokens s) kind d.position c.requires.unset at.known
    (follows-byte byte) (trailing-ended d byte t s at left none other (sym c.is_active.ensures ∙ c.if-is_active.false)))
