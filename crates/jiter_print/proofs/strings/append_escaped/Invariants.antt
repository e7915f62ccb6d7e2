use Rattle.std.proofs.Common.{◌≡◌, ◌≤◌, ◌-◌, ◌++◌, length, take, flat_map}
use Rattle.jiter_print.specs.Print.{print_byte}
use Rattle.jiter_print.proofs.strings.append_escaped.Given as goal

abbrev pub invariant-loop-end : goal.invariant-loop-end
invariant-loop-end l = record {
  within : l.begin ≤ length l.bytes;
  room : l.end ≤ length l.line.items;
  printed : take l.end l.line.items
      ≡ take l.fn.count l.initial.line.items ++ flat_map print_byte (take l.begin l.bytes);
}

abbrev pub decreases-loop-end : goal.decreases-loop-end
decreases-loop-end l = length l.bytes - l.begin
