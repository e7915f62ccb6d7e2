use Rattle.jiter_value.proofs.Words.{ap, arith, length, refl, reverse, fault_kind, scalar_at, text_view}
use Rattle.jiter_value.proofs.Repeats.{no-colon}
use Rattle.jiter_value.proofs.StackTurns.{colon-fails}
use Rattle.jiter_value.proofs.Taking.{at-colon, left-known, taken-on}
use Rattle.jiter_value.proofs.TurnOutcomes.{leads-weaker}
use Rattle.jiter_value.proofs.parse.turns.key_turns.read_key.Goals as goal

pub returns-in-Some-clause-turned : goal.returns-in-Some-clause-turned
returns-in-Some-clause-turned g c =
    let policy = g.T.StringStorage.policy in
    let a = c.args in
    let p = a.reading.now.settings in
    let t = a.bytes.now in
    let s = a.reading.now.stacks in
    let os = reverse s.nest.items in
    let es = s.items.items in
    let ms = s.members.items in
    let key = text_view a.key in
    let k = fault_kind c.in-Some.kind in
    let j = c.colon-after.result.0 in
    let value = rw c.in-Some.is at c.colon-after.ensures.value in
    let forward = c.requires.within.0 in
    let onward = c.colon-after.ensures.within.0 in
    let e = c.fault_inside.ensures in
    let known = c.requires.known in
    let here = c.requires.at_key in
    taken-on policy p t a.at s _ _ _ _ _ c.requires.going
    (leads-weaker e.leads (omega (arith, forward, onward)) (omega (arith, forward, onward)) (omega arith)
    (colon-fails policy p t os es ms a.at key a.end j j k here.0
    (no-colon policy t os (length es) ms a.at here.0 key a.end k j c.requires.read value)
    here.2 (ap (scalar_at a.at) c.requires.read) (at-colon t a.end j k value, refl)))
    (left-known known.0 ms c.fault_inside.new.reading.stacks c.fault_inside.result.1 (g.K.KeyPolicy.knows a.keys.now) known.1
    known.2 e.keys)
