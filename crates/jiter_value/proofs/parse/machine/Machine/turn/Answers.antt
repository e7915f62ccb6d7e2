use Rattle.jiter_value.proofs.Words.{◌≤◌, length, subst, sym}
use Rattle.jiter_value.specs.Machine.{position_in, progress}
use Rattle.jiter_value.specs.TurnsTo.{TurnsTo}
use Rattle.jiter_value.proofs.parse.machine.Machine.turn.Goals as goal

pub returns-in-None : goal.returns-in-None
returns-in-None c =
    let m = c.self.inside in
    let t = m.bytes.now in
    rw (← c.self.view_is)
    (subst (λ r. (h : position_in r ≤ length t) → TurnsTo (progress t m.settings r h) c.first_turn.result) (sym c.in-None.is)
    c.first_turn.ensures m.within)
