use Rattle.jiter_value.proofs.Words.{refl}
use Rattle.jiter_steps.specs.declared.parse.Start.TheVariants as start
use Rattle.jiter_value.proofs.TurnOutcomes.{grows-kept, put-turned, refused-turned}
use Rattle.jiter_value.proofs.parse.turns.scalars.number_turn.Goals as goal

pub returns-in-Done : goal.returns-in-Done
returns-in-Done g c =
    let policy = g.T.StringStorage.policy in
    let a = c.args in
    let p = a.reading.now.settings in
    let t = a.bytes.now in
    let e = c.put_number-end.result.0 in
    let put = c.put_number-end.ensures.put c.in-Done.is in
    let then = c.after_value.ensures in
    put-turned policy g.T.StringStorage.wants t a.at a.slot a.reading.now c.put_number-end.new.stacks
    c.after_value.new.reading e c.after_value.result (put.value p) put.nest put.held put.ahead put.within
    (c.put_number-end.ensures.keys c.in-Done.is) then.leads then.memory then.root then.keys then.settings

pub returns-in-NoMemory : goal.returns-in-NoMemory
returns-in-NoMemory g c =
    let a = c.args in
    let bad = c.put_number-end.ensures.refused c.in-NoMemory.is in
    refused-turned g.T.StringStorage.policy g.T.StringStorage.wants a.bytes.now a.at a.slot a.reading.now _
    c.put_number-end.result.0 _ bad.error.0 refl bad.error.1 bad.within.0 bad.within.1
    (grows-kept a.bytes.now a.at g.T.StringStorage.wants start.Number c.requires.begins (λ h. cc) (λ h. cc)
    (c.put_number-end.ensures.memory c.in-NoMemory.is))
    refl
