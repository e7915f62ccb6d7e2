use Rattle.std.proofs.Common.{◌∙◌, ◌<◌, ◌≤◌, ◌+◌, ◌-◌, ◌^◌, ap, arith, length, min}
use Rattle.jiter_c.specs.Walk.{item_nodes, item_texts, member_nodes, member_texts}
use Rattle.jiter_c.proofs.Nodes.{counted-end, item-counted, item-measured, items-end, measured-end, member-counted, member-measured}
use Rattle.jiter_c.proofs.Nodes.{members-end}
use Rattle.jiter_c.proofs.walk.+count.Goals as goal

pub count_items-loop-i-preserved : goal.count_items-loop-i-preserved
count_items-loop-i-preserved t c =
    let items = c.args.items.now in
    let l = c.loop-i in
    let lt : l.i < length items.items = omega (arith, items.ok.0, c.len-i-end.ensures, c.loop-i-test.true) in
    let v = c.index.result.now in
    record {
      nodes = λ at. item-counted items.items l.i v lt c.index.ensures at l.nodes _ _
          (c.saturating_add-nodes.ensures ∙ ap (λ k. min (l.nodes + k) (2 ^ 64 - 1)) (c.count-parts.ensures.nodes at))
          (l.invariant.nodes at);
      bytes = item-measured items.items l.i v lt c.index.ensures l.bytes _ _
          (c.saturating_add-bytes.ensures ∙ ap (λ k. min (l.bytes + k) (2 ^ 64 - 1)) c.count-parts.ensures.bytes)
          l.invariant.bytes;
      small = (omega (arith, c.saturating_add-nodes.ensures), omega (arith, c.saturating_add-bytes.ensures));
    }

pub count_items-returns-clause-nodes : goal.count_items-returns-clause-nodes
count_items-returns-clause-nodes t c = λ at.
    let items = c.args.items.now in
    let end : length items.items ≤ c.loop-i.i = omega (arith, items.ok.0, c.len-i-end.ensures, c.loop-i-test.false) in
    counted-end _ c.loop-i.nodes _ (ap (item_nodes at) (items-end items.items c.loop-i.i end)) c.loop-i.invariant.small.0
    (c.loop-i.invariant.nodes at)

pub count_items-returns-clause-bytes : goal.count_items-returns-clause-bytes
count_items-returns-clause-bytes t c =
    let items = c.args.items.now in
    let end : length items.items ≤ c.loop-i.i = omega (arith, items.ok.0, c.len-i-end.ensures, c.loop-i-test.false) in
    measured-end _ c.loop-i.bytes _ (ap item_texts (items-end items.items c.loop-i.i end)) c.loop-i.invariant.small.1
    c.loop-i.invariant.bytes

pub count_members-loop-i-preserved : goal.count_members-loop-i-preserved
count_members-loop-i-preserved t c =
    let members = c.args.members.now in
    let l = c.loop-i in
    let lt : l.i < length members.items = omega (arith, members.ok.0, c.len-i-end.ensures, c.loop-i-test.true) in
    let m = c.index-member.result.now in
    record {
      nodes = λ at. member-counted members.items l.i m lt c.index-member.ensures at l.nodes _ _
          (c.saturating_add-nodes.ensures ∙ ap (λ k. min (l.nodes + k) (2 ^ 64 - 1)) (c.count-parts.ensures.nodes _))
          (l.invariant.nodes at);
      bytes = member-measured members.items l.i m lt c.index-member.ensures l.bytes c.saturating_add.result _ _
          (c.saturating_add.ensures ∙ ap (λ k. min (l.bytes + k) (2 ^ 64 - 1)) (ap length c.as_str.ensures.value))
          (c.saturating_add-bytes.ensures ∙ ap (λ k. min (c.saturating_add.result + k) (2 ^ 64 - 1)) c.count-parts.ensures.bytes)
          l.invariant.bytes;
      small = (omega (arith, c.saturating_add-nodes.ensures), omega (arith, c.saturating_add-bytes.ensures));
    }

pub count_members-returns-clause-nodes : goal.count_members-returns-clause-nodes
count_members-returns-clause-nodes t c = λ at.
    let members = c.args.members.now in
    let end : length members.items ≤ c.loop-i.i = omega (arith, members.ok.0, c.len-i-end.ensures, c.loop-i-test.false) in
    counted-end _ c.loop-i.nodes _ (ap (member_nodes at) (members-end members.items c.loop-i.i end)) c.loop-i.invariant.small.0
    (c.loop-i.invariant.nodes at)

pub count_members-returns-clause-bytes : goal.count_members-returns-clause-bytes
count_members-returns-clause-bytes t c =
    let members = c.args.members.now in
    let end : length members.items ≤ c.loop-i.i = omega (arith, members.ok.0, c.len-i-end.ensures, c.loop-i-test.false) in
    measured-end _ c.loop-i.bytes _ (ap member_texts (members-end members.items c.loop-i.i end)) c.loop-i.invariant.small.1
    c.loop-i.invariant.bytes
