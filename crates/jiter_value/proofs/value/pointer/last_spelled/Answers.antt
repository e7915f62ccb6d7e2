use Rattle.jiter_value.proofs.Words.{◌≡◌, ◌∙◌, ◌+◌, ◌-◌, ◌<◌, Bool, List, None, ap, arith, length, take, ℕ, bytes_eq}
use Rattle.jiter_value.proofs.Words.{last_such, token_of, member_views}
use Rattle.jiter_value.proofs.Looking.{last_such_hit, last_such_miss}
use Rattle.jiter_value.proofs.Pointing.{not_spelled_if, spelled_if}
use Rattle.jiter_value.proofs.value.pointer.last_spelled.Goals as goal

pub returns-then-spells : goal.returns-then-spells
returns-then-spells c =
    let token = c.args.token.now in
    let test : List ℕ → Bool = λ name. bytes_eq (token_of name) token in
    let members = c.args.members.now in
    let last = c.loop-rest.rest - 1 in
    let name = c.as_bytes-in-loop-rest.ensures.value ∙ c.as_str.ensures.value in
    let lt : last < length members.items = omega (arith, c.loop-rest-test.true, c.loop-rest.invariant.0) in
    let next : last + 1 ≡ c.loop-rest.rest = omega (arith, c.loop-rest-test.true) in
    last_such_hit test members.items last c.index-member.result.now lt c.index-member.ensures
    (spelled_if token _ _ _ _ c.as_bytes.ensures.value name c.spells.ensures c.if-spells.true)
    ∙ ap (λ n. last_such test None (member_views (take n members.items))) next ∙ c.loop-rest.invariant.1

pub loop-rest-preserved : goal.loop-rest-preserved
loop-rest-preserved c =
    let token = c.args.token.now in
    let test : List ℕ → Bool = λ name. bytes_eq (token_of name) token in
    let members = c.args.members.now in
    let last = c.loop-rest.rest - 1 in
    let name = c.as_bytes-in-loop-rest.ensures.value ∙ c.as_str.ensures.value in
    let lt : last < length members.items = omega (arith, c.loop-rest-test.true, c.loop-rest.invariant.0) in
    let next : last + 1 ≡ c.loop-rest.rest = omega (arith, c.loop-rest-test.true) in (
      omega (arith, c.loop-rest.invariant.0),
      last_such_miss test members.items last c.index-member.result.now lt c.index-member.ensures
          (not_spelled_if token _ _ _ _ c.as_bytes.ensures.value name c.spells.ensures c.if-spells.false)
          ∙ ap (λ n. last_such test None (member_views (take n members.items))) next ∙ c.loop-rest.invariant.1,
    )
