use Rattle.std.proofs.Common.{◌≡◌, ◌<◌, ◌≤◌, ℕ, length}
use Rattle.std.specs.Str.{bytes_eq}
use Rattle.filter.specs.Members.{with_value}
use Rattle.filter.specs.Once.{found_at, name_at}
use Rattle.filter.specs.declared.pointers.Member.{Member}
use Rattle.filter.proofs.members.put.Given as goal

abbrev pub invariant-loop-index : goal.invariant-loop-index
invariant-loop-index l =
    ((k : ℕ) (m : Member) → k < length l.members → k < l.index → found_at l.sources k
    ≡ with_value (bytes_eq l.key (name_at l.members k m)) l.source (found_at l.initial.sources k))
    × ((k : ℕ) → l.index ≤ k → found_at l.sources k ≡ found_at l.initial.sources k)
