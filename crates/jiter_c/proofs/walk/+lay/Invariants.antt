use Rattle.std.proofs.Common.{◌+◌, drop}
use Rattle.jiter_value.specs.Value.{member_views, views}
use Rattle.jiter_c.specs.Walk.{item_nodes, item_texts, member_nodes, member_texts}
use Rattle.jiter_c.proofs.Laying.{Laying}
use Rattle.jiter_c.proofs.walk.+lay.Given as goal

abbrev pub invariant-lay_items-loop-i : goal.invariant-lay_items-loop-i
invariant-lay_items-loop-i l = record {
  nodes : Laying (item_nodes l.text (views l.items.items)) (item_nodes (l.text + l.bytes) (views (drop l.i l.items.items)))
      l.count l.initial.nodes l.nodes;
  texts : Laying (item_texts (views l.items.items)) (item_texts (views (drop l.i l.items.items))) l.bytes l.initial.texts
      l.texts;
}

abbrev pub invariant-lay_members-loop-i : goal.invariant-lay_members-loop-i
invariant-lay_members-loop-i l = record {
  nodes : Laying (member_nodes l.text (member_views l.members.items))
      (member_nodes (l.text + l.bytes) (member_views (drop l.i l.members.items))) l.count l.initial.nodes l.nodes;
  texts : Laying (member_texts (member_views l.members.items)) (member_texts (member_views (drop l.i l.members.items)))
      l.bytes l.initial.texts l.texts;
}
