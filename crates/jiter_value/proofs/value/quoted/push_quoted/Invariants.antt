use Rattle.jiter_value.proofs.Words.{◌≡◌, ◌++◌, ◌-◌, length, flat_map, string_bytes, IsCharBoundary, quoted_byte}
use Rattle.jiter_value.proofs.Words.{quoted_from}
use Rattle.jiter_value.proofs.value.quoted.push_quoted.Given as goal

abbrev pub invariant-loop-at : goal.invariant-loop-at
invariant-loop-at l = record {
  boundary : IsCharBoundary l.key l.at;
  printed : string_bytes l.text ++ quoted_from l.key l.at
      ≡ string_bytes l.initial.text ++ flat_map quoted_byte l.key;
}

abbrev pub decreases-loop-at : goal.decreases-loop-at
decreases-loop-at l = length l.key - l.at
