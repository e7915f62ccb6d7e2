use Rattle.std.proofs.Common.{◌≡◌, ◌≤◌, ◌+◌, ◌-◌, ◌^◌, ℕ, suc, length, drop}
use Rattle.jiter_value.specs.Value.{member_views, views}
use Rattle.jiter_c.specs.Walk.{capped, item_nodes, item_texts, member_nodes, member_texts}
use Rattle.jiter_c.proofs.walk.+count.Given as goal

abbrev pub invariant-count_items-loop-i : goal.invariant-count_items-loop-i
invariant-count_items-loop-i l = record {
  nodes : (at : ℕ) → capped (l.nodes + length (item_nodes at (views (drop l.i l.items.items))))
      ≡ capped (suc (length (item_nodes at (views l.items.items))));
  bytes : capped (l.bytes + length (item_texts (views (drop l.i l.items.items))))
      ≡ capped (length (item_texts (views l.items.items)));
  small : (l.nodes ≤ 2 ^ 64 - 1) × (l.bytes ≤ 2 ^ 64 - 1);
}

abbrev pub invariant-count_members-loop-i : goal.invariant-count_members-loop-i
invariant-count_members-loop-i l = record {
  nodes : (at : ℕ) → capped (l.nodes + length (member_nodes at (member_views (drop l.i l.members.items))))
      ≡ capped (suc (length (member_nodes at (member_views l.members.items))));
  bytes : capped (l.bytes + length (member_texts (member_views (drop l.i l.members.items))))
      ≡ capped (length (member_texts (member_views l.members.items)));
  small : (l.nodes ≤ 2 ^ 64 - 1) × (l.bytes ≤ 2 ^ 64 - 1);
}
