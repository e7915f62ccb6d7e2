use Rattle.jiter_value.proofs.Words.{◌∙◌, arith}
use Rattle.jiter_value.proofs.Pointing.{spelled_there, spelled_nowhere}
use Rattle.jiter_value.proofs.value.pointer.item_spelled.Goals as goal

pub returns-in-Some : goal.returns-in-Some
returns-in-Some c =
    let small = rw c.in-Some.is at c.index_of.type_inv in
    c.item_at.ensures
    ∙ spelled_there c.args.token.now c.in-Some.index c.args.items.now.items (omega (arith, small))
    ((c.index_of.ensures c.in-Some.index (omega (arith, small))).0 c.in-Some.is)

pub returns-in-None : goal.returns-in-None
returns-in-None c =
    let none = c.in-None.is in
    spelled_nowhere c.args.token.now
    (λ n lt e. let there = (c.index_of.ensures n lt).1 e in absurd (cc)) 0 c.args.items.now.items
    (omega (arith, c.args.items.now.ok.0))
