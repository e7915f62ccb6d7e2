use Rattle.jiter_value.proofs.Words.{◌≡◌, ◌∙◌, ◌∷◌, ◌++◌, [], subst, sym, ap, arith, drop, length, length-append}
use Rattle.jiter_value.proofs.Words.{get_or, get_or-append_seam, length-map, on_ok_weaker, IfOk-weaker, text_view}
use Rattle.jiter_value.proofs.Words.{IsNowhere, IsPlaceOf, keys_of, has_key}
use Rattle.jiter_value.proofs.DuplicateKeys.{up-more, up-added, no-member}
use Rattle.jiter_value.proofs.parse.turns.duplicate_keys.add_key.Goals as goal

pub returns-clause-keys : goal.returns-clause-keys
returns-clause-keys c =
    let members = c.args.members.now in
    let ks = keys_of members.items in
    let key = (text_view c.args.key.now).bytes in
    let s = c.index_new_members.new.set in
    let all : s.end ≡ length ks = omega
    (arith, c.in_ok-index_new_members.ensures.end, members.ok.0, length-map members.items (λ x. (text_view x.0).bytes)) in
    on_ok_weaker c.put.result
    (λ adds. up-added (ks ++ key ∷ []) key s c.put.new.set (up-more ks (key ∷ []) s c.in_ok-index_new_members.ensures.keys)
    (omega (arith, all, length-append ks (key ∷ [])))
    (ap (λ n. get_or (ks ++ key ∷ []) n []) all ∙ get_or-append_seam ks key [] []) adds)
    c.put.ensures.adds

pub returns-clause-new : goal.returns-clause-new
returns-clause-new c =
    let members = c.args.members.now in
    let key = (text_view c.args.key.now).bytes in
    let s = c.index_new_members.new.set in
    let all : s.end ≡ length members.items = omega (arith, c.in_ok-index_new_members.ensures.end, members.ok.0) in
    let p = c.place_of-place.result in
    let place : IsPlaceOf s.slots.items key p =
    subst (λ k. IsPlaceOf s.slots.items k p) c.as_str.ensures.value c.place_of-place.ensures in
    let nowhere : IsNowhere (keys_of members.items) s.slots.items p key =
    subst (IsNowhere (keys_of members.items) s.slots.items p) c.as_str-2.ensures.value (c.is_named.ensures.other c.if-is_named.false) in
    let base = c.in_ok-index_new_members.ensures.base ∙ c.in_ok-widen.ensures.base in
    IfOk-weaker c.put.result _ _
    (λ found h. λ new. ap (λ b. has_key key (drop b members.items)) (sym base)
    ∙ no-member members.items s key p c.in_ok-index_new_members.ensures.keys all place nowhere (h new))
    c.put.ensures.new
