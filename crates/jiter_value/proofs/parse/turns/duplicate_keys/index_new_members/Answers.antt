use Rattle.jiter_value.proofs.Words.{◌≡◌, ◌+◌, ◌∙◌, ◌<◌, ap, arith, length, get_or, [], length-map, text_view, keys_of}
use Rattle.jiter_value.proofs.DuplicateKeys.{key-of, up-added}
use Rattle.jiter_value.proofs.parse.turns.duplicate_keys.index_new_members.Goals as goal

pub returns-in_err-put-clause-base : goal.returns-in_err-put-clause-base
returns-in_err-put-clause-base c = c.put.ensures.base ∙ c.loop-i.invariant.2

pub loop-i-preserved : goal.loop-i-preserved
loop-i-preserved c =
    let l = c.loop-i in
    let members = c.args.members.now in
    let ks = keys_of members.items in
    let m = c.index.result.now in
    let adds = c.in_ok-put.ensures.adds in
    let lt : l.i < length members.items = omega (arith, c.loop-i-test.true, c.len-i-end.ensures, members.ok.0) in
    let within : l.set.end < length ks =
    omega (arith, lt, l.invariant.1, length-map members.items (λ x. (text_view x.0).bytes)) in
    let at : get_or ks l.set.end [] ≡ (text_view m.0).bytes =
    ap (λ n. get_or ks n []) l.invariant.1 ∙ key-of members.items l.i m lt c.index.ensures in (
      up-added ks _ l.set c.put.new.set l.invariant.0 within at adds,
      adds.end ∙ ap (λ n. n + 1) l.invariant.1,
      adds.base ∙ l.invariant.2,
    )
