use Rattle.jiter_value.proofs.Words.{◌≡◌, ◌∙◌, ◌+◌, ◌-◌, ◌<◌, None, ap, arith, length, sym, take, bytes_eq, last_such}
use Rattle.jiter_value.proofs.Words.{member_views}
use Rattle.jiter_value.proofs.Looking.{last_such_hit, last_such_miss}
use Rattle.jiter_value.proofs.value.access.last_named.Goals as goal

pub returns-then-eq : goal.returns-then-eq
returns-then-eq c =
    let name = c.args.name.now in
    let members = c.args.members.now in
    let last = c.loop-rest.rest - 1 in
    let test = ap (λ b. bytes_eq b name) (sym c.as_str.ensures.value) ∙ sym c.eq.ensures in
    let lt : last < length members.items = omega (arith, c.loop-rest-test.true, c.loop-rest.invariant.0) in
    let next : last + 1 ≡ c.loop-rest.rest = omega (arith, c.loop-rest-test.true) in
    last_such_hit (λ key. bytes_eq key name) members.items last c.index-member.result.now lt c.index-member.ensures (test ∙ c.if-eq.true)
    ∙ ap (λ n. last_such (λ key. bytes_eq key name) None (member_views (take n members.items))) next ∙ c.loop-rest.invariant.1

pub loop-rest-preserved : goal.loop-rest-preserved
loop-rest-preserved c =
    let name = c.args.name.now in
    let members = c.args.members.now in
    let last = c.loop-rest.rest - 1 in
    let test = ap (λ b. bytes_eq b name) (sym c.as_str.ensures.value) ∙ sym c.eq.ensures in
    let lt : last < length members.items = omega (arith, c.loop-rest-test.true, c.loop-rest.invariant.0) in
    let next : last + 1 ≡ c.loop-rest.rest = omega (arith, c.loop-rest-test.true) in (
      omega (arith, c.loop-rest.invariant.0),
      last_such_miss (λ key. bytes_eq key name) members.items last c.index-member.result.now lt c.index-member.ensures (test ∙ c.if-eq.false)
          ∙ ap (λ n. last_such (λ key. bytes_eq key name) None (member_views (take n members.items))) next ∙ c.loop-rest.invariant.1,
    )
