use Rattle.jiter_value.proofs.Words.{◌≡◌, ◌-◌, ◌∷◌, [], ◌∙◌, ap, arith, length, length-append, slice_set}
use Rattle.jiter_value.proofs.KeptKeys.{leaves-set}
use Rattle.jiter_value.proofs.StackTurns.{set-last}
use Rattle.jiter_value.proofs.parse.stacks.set_last.Goals as goal

pub returns-clause-value : goal.returns-clause-value
returns-clause-value c = λ before key old h.
    let xs = c.args.members.now.items in
    let n = c.len-last.result - 1 in
    let got = c.index_mut.result.now in
    let at : n ≡ length before = omega
    (arith, c.len-last.ensures, c.args.members.now.ok.0, ap length h, length-append before ((key, old) ∷ [])) in
    ap (λ v. slice_set xs n (got.0, v)) c.replace_placeholder.ensures
    ∙ set-last xs before n key old c.args.value got h at c.index_mut.ensures.value

pub returns-clause-keys : goal.returns-clause-keys
returns-clause-keys c =
    leaves-set c.args.members.now.items (c.len-last.result - 1) _ c.index_mut.result.now c.index_mut.ensures.value
