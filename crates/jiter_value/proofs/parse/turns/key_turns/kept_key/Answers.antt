use Rattle.jiter_value.proofs.Words.{◌≡◌, ◌++◌, ◌∷◌, ◌∙◌, [], ap, arith, length, refl, reverse, length-reverse}
use Rattle.jiter_value.proofs.Words.{fault_kind, failed, taken, scalar_at, text_view, keys_of}
use Rattle.jiter_value.specs.declared.parse.stacks.State.TheVariants as state
use Rattle.jiter_value.proofs.KeptKeys.{pushed-keys}
use Rattle.jiter_value.proofs.Placed.{key-at}
use Rattle.jiter_value.proofs.StackTurns.{key-begins, key-limit, colon-fails}
use Rattle.jiter_value.proofs.Taking.{after-colon, more-known, taken-on}
use Rattle.jiter_value.proofs.TurnOutcomes.{leads-weaker}
use Rattle.jiter_value.proofs.parse.turns.key_turns.kept_key.Goals as goal

pub returns-in-Some-clause-turned : goal.returns-in-Some-clause-turned
returns-in-Some-clause-turned g c =
    let policy = g.T.StringStorage.policy in
    let a = c.args in
    let p = a.reading.now.settings in
    let t = a.bytes.now in
    let s = a.reading.now.stacks in
    let read = c.requires.read in
    let k = fault_kind c.in-Some.kind in
    let asked = c.if-not-admits.ensures in
    let e = c.fault_inside.ensures in
    let first = c.value_first-next.ensures in
    let j = c.value_first-next.result.0 in
    let value = rw c.in-Some.is at first.value in
    taken-on policy p t a.at s _ _ _ _ _ asked.stopped
    (leads-weaker e.leads (omega (arith, read.within.0, c.requires.within.0, first.within.0))
    (omega (arith, read.within.0, c.requires.within.0, first.within.0)) (omega arith)
    (colon-fails policy p t (reverse s.nest.items) s.items.items s.members.items a.at read.key a.end j j k
    c.requires.stands (asked.free policy c.requires.serves refl)
    (omega (arith, read.within.0, read.within.1)) (ap (scalar_at a.at) read.read)
    (after-colon t a.end a.after (failed k j) read.colon value, refl)))
    (more-known s.members.items _ c.fault_inside.new.reading.stacks c.fault_inside.result.1
    (g.K.KeyPolicy.knows c.admits.new.self) (asked.known refl) e.keys)

pub returns-then-is_too_deep-clause-turned : goal.returns-then-is_too_deep-clause-turned
returns-then-is_too_deep-clause-turned g c =
    let policy = g.T.StringStorage.policy in
    let a = c.args in
    let p = a.reading.now.settings in
    let t = a.bytes.now in
    let s = a.reading.now.stacks in
    let os = reverse s.nest.items in
    let es = s.items.items in
    let ms = s.members.items in
    let read = c.requires.read in
    let m = c.value_first-next.result.0 in
    let asked = c.if-not-admits.ensures in
    let first = c.value_first-next.ensures in
    let value = rw c.in_default.is at first.value in
    let inside = first.inside c.in_default.is in
    let full : length os ≡ 201 = omega
    (arith, length-reverse s.nest.items, c.if-is_too_deep.ensures.full refl, c.requires.levels) in
    rw c.too_deep.ensures.place
    (taken-on policy p t a.at s c.too_deep.new.stacks (m, state.GivenUp) _ _ _ asked.stopped
    (record {
      within = (
        omega (arith, read.within.0, c.requires.within.0, first.within.0),
        omega (arith, inside),
      );
      reaches = rw c.too_deep.ensures.error
          (key-begins policy p t os es ms a.at read.key a.end m c.requires.stands (asked.free policy c.requires.serves refl)
          (omega (arith, read.within.0, read.within.1)) (ap (scalar_at a.at) read.read)
          (after-colon t a.end a.after (taken tt m) read.colon value)
          ∙ key-limit policy p t (policy.text read.key) os es ms m c.requires.stands full);
      work_left = tt;
      held = tt;
    })
    tt)

pub returns-clause-turned : goal.returns-clause-turned
returns-clause-turned g c =
    let policy = g.T.StringStorage.policy in
    let a = c.args in
    let p = a.reading.now.settings in
    let t = a.bytes.now in
    let s = a.reading.now.stacks in
    let ms = s.members.items in
    let read = c.requires.read in
    let m = c.value_first-next.result.0 in
    let asked = c.if-not-admits.ensures in
    let first = c.value_first-next.ensures in
    let value = rw c.in_default.is at first.value in
    let inside = first.inside c.in_default.is in
    let put = key-at policy t s c.put_key.new.members a.at a.end m read.key a.key _ c.requires.stands
    (asked.free policy c.requires.serves refl) (omega (arith, read.within.0, read.within.1))
    (ap (scalar_at a.at) read.read) read.kept (after-colon t a.end a.after (taken tt m) read.colon value)
    c.put_key.ensures (omega (arith, read.within.0, c.requires.within.0, first.within.0)) inside in
    taken-on policy p t a.at s _ _ _ _ _ asked.stopped
    (record {
      within = (omega (arith, put.ahead), omega (arith, put.within));
      reaches = (
        put.value p,
        (put.stands, omega (arith, c.if-is_too_deep.ensures.few refl), put.within, λ item. absurd (cc)),
      );
      work_left = omega (arith, put.ahead, put.within);
      held = omega (arith, put.held);
    })
    (keys_of ms ++ (text_view a.key).bytes ∷ [], asked.known refl, pushed-keys ms _ a.key _ c.put_key.ensures)
