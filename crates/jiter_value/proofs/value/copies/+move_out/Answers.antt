use Rattle.jiter_value.proofs.Words.{◌≡◌, map, ◌∙◌, ap, ap₂, rules, arith, text_view, owned_member, member_view, view}
use Rattle.jiter_value.proofs.Owning.{moved-more}
use Rattle.jiter_value.proofs.value.copies.+move_out.Goals as goal

pub move_members-loop-i-preserved : goal.move_members-loop-i-preserved
move_members-loop-i-preserved t c =
    let l = c.loop-i in
    let member = c.index_mut-member.result.now in
    let is : (text_view c.in_ok-key.key, view c.in_ok-value.value) ≡ owned_member (member_view member) = ap₂
    (λ key value. (key, value)) c.in_ok-key.ensures.value c.in_ok-value.ensures.value in
    let at = c.index_mut-member.ensures.value ∙ l.invariant.unvisited.1 l.i member (omega arith) in
    record {
      moved =
          ap (map member_view) c.in_ok-push.ensures.ok
          ∙ moved-more member_view owned_member l.moved.items c.args.members.now.items l.i member
          (c.in_ok-key.key, c.in_ok-value.value) l.invariant.moved (omega (arith, l.invariant.unvisited.0)) at is;
      unvisited = search rules;
    }
