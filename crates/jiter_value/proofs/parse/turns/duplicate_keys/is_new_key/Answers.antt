use Rattle.jiter_value.proofs.Words.{◌-◌, ◌∷◌, ◌++◌, [], sym, subst, All, on_ok_weaker, text_view, IsUpToDate, keys_of}
use Rattle.std.proofs.lemmas.List.Elements.{All-set, All-push}
use Rattle.jiter_value.proofs.DuplicateKeys.{more-all}
use Rattle.jiter_value.proofs.parse.turns.duplicate_keys.is_new_key.Goals as goal

pub returns-then-index-base-clause-sets : goal.returns-then-index-base-clause-sets
returns-then-index-base-clause-sets c =
    let ks = keys_of c.args.members.now.items in
    let more = (text_view c.args.key.now).bytes ∷ [] in
    let sets = c.args.sets.now.items in
    on_ok_weaker c.add_key.result
    (λ up. All-set (IsUpToDate (ks ++ more)) sets (c.len-count.result - 1) c.add_key.new.set up
    (more-all ks more sets c.requires.sets))
    c.add_key.ensures.keys

pub returns-clause-sets : goal.returns-clause-sets
returns-clause-sets c =
    let ks = keys_of c.args.members.now.items in
    let more = (text_view c.args.key.now).bytes ∷ [] in
    let sets = c.args.sets.now.items in
    subst (All (IsUpToDate (ks ++ more))) (sym c.in_ok-push.ensures.ok)
    (All-push (IsUpToDate (ks ++ more)) sets c.add_key-2.new.set (more-all ks more sets c.requires.sets)
    c.in_ok-new.ensures.keys)
