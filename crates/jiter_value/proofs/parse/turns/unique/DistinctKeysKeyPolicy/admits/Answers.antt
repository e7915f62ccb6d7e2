use Rattle.jiter_value.proofs.Words.{◌≡◌, ◌∙◌, ap₂, drop, false, subst, sym, text_view, IsKeyRead, has_key}
use Rattle.jiter_value.proofs.Words.{object_has_key}
use Rattle.jiter_value.proofs.Repeats.{free-key}
use Rattle.jiter_value.proofs.parse.turns.unique.DistinctKeysKeyPolicy.admits.Goals as goal

pub returns-then-not-has_key-clause-free : goal.returns-then-not-has_key-clause-free
returns-then-not-has_key-clause-free c = λ policy is _.
    let a = c.args in
    let s = a.stacks.now in
    let key = text_view a.key.now in
    let given = c.requires.read in
    let read = subst (λ m. IsKeyRead m a.bytes.now a.at a.end given.1 key) given.2 given.3 in
    let new : object_has_key key.bytes s ≡ false =
    ap₂ (λ k b. has_key k (drop b s.members.items)) (sym c.as_str.ensures.value) (sym c.innermost_base-base.ensures)
    ∙ sym c.has_key.ensures ∙ c.if-not-has_key.true in
    rw is (free-key a.bytes.now s a.at a.end given.1 key c.requires.stands read new)
