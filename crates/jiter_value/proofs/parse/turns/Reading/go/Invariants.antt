use Rattle.jiter_value.proofs.Words.{◌≡◌, ℕ, List, eqb, false, not, true, HaveKeys, GoesOn, HasReached, work_left}
use Rattle.jiter_value.specs.Turns.{HasGone}
use Rattle.jiter_value.proofs.Turning.{turns_left}
use Rattle.jiter_value.proofs.parse.turns.Reading.go.Given as goal

abbrev pub invariant-turning : goal.invariant-turning
invariant-turning g l =
    ((i : ℕ) → HasGone g.T.StringStorage.policy g.T.StringStorage.wants l.bytes i l.initial.self
    → HasReached g.T.StringStorage.policy g.T.StringStorage.wants l.bytes i l.self.settings l.self.stacks l.at l.state)
    × (l.self.settings ≡ l.initial.self.settings)
    × g.K.KeyPolicy.serves l.keys g.T.StringStorage.policy
    × (g.K.KeyPolicy.stopped l.keys ≡ false)
    × (GoesOn l.state → (ks : List (List ℕ)) × g.K.KeyPolicy.knows l.keys ks × HaveKeys ks l.self.stacks.members.items)
    × (not (eqb g.row.ONCE 0) ≡ true → (l.at ≡ l.initial.self.at) × (l.state ≡ l.initial.self.state)
    × (l.self.stacks ≡ l.initial.self.stacks))

abbrev pub decreases-turning : goal.decreases-turning
decreases-turning g l = turns_left l.state (work_left l.bytes l.self.stacks l.at)
