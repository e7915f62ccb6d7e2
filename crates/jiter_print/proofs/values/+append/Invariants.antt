use Rattle.std.proofs.Common.{◌≡◌, ◌<◌, ◌++◌, length, take}
use Rattle.std.specs.List.{join_with_byte}
use Rattle.jiter_value.specs.Value.{views, member_views}
use Rattle.jiter_print.specs.Layout.{deeper, layout_of, items_laid_out, members_laid_out}
use Rattle.jiter_print.proofs.PrintMore.{is_pretty}
use Rattle.jiter_print.proofs.values.+append.Given as goal

abbrev pub invariant-append_items-loop-i : goal.invariant-append_items-loop-i
invariant-append_items-loop-i g l = record {
  room : l.end < length l.line.items;
  text : take l.end l.line.items
      ≡ take l.initial.end l.initial.line.items
      ++ join_with_byte 44 (items_laid_out (deeper (layout_of (is_pretty g.row.PRETTY) l.indent l.margin)) (views
      (take l.i l.items.items)));
}

abbrev pub invariant-append_members-loop-i : goal.invariant-append_members-loop-i
invariant-append_members-loop-i g l = record {
  room : l.end < length l.line.items;
  text : take l.end l.line.items
      ≡ take l.initial.end l.initial.line.items
      ++ join_with_byte 44 (members_laid_out (deeper (layout_of (is_pretty g.row.PRETTY) l.indent l.margin)) (member_views
      (take l.i l.members.items)));
}
