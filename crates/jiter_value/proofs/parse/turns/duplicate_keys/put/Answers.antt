use Rattle.jiter_value.proofs.Words.{◌∙◌, sym, ap, arith, refl, has_text}
use Rattle.jiter_value.proofs.DuplicateKeys.{adds-slot, adds-rest}
use Rattle.jiter_value.proofs.parse.turns.duplicate_keys.put.Goals as goal

pub returns-then-place-clause-adds : goal.returns-then-place-clause-adds
returns-then-place-clause-adds c =
    adds-slot _ c.args.set.now _ c.args.place c.requires.place c.if-place.true refl refl refl refl

pub returns-clause-adds : goal.returns-clause-adds
returns-clause-adds c =
    let put = c.in_ok-new.ensures in
    adds-rest _ c.args.set.now _ c.args.place c.in_ok-copy.copy c.requires.place (omega (arith, c.if-place.false)) refl refl
    refl put.keys
    (ap (has_text c.insert.new.set) (ap (λ x. x.bytes) (sym c.in_ok-copy.ensures.value)) ∙ put.has)
