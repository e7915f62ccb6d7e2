use Rattle.jiter_value.proofs.Words.{◌∙◌, arith, done, view}
use Rattle.jiter_value.proofs.StackTurns.{value-read}
use Rattle.jiter_value.proofs.TurnOutcomes.{put-turned}
use Rattle.jiter_value.proofs.parse.turns.scalars.put_and_go_on.Goals as goal

pub returns : goal.returns
returns g c =
    let policy = g.T.StringStorage.policy in
    let a = c.args in
    let p = a.reading.now.settings in
    let t = a.bytes.now in
    let here = c.requires.at_value in
    let put = c.put_reserved.ensures in
    let then = c.after_value.ensures in
    put-turned policy g.T.StringStorage.wants t a.at a.slot a.reading.now c.put_reserved.new.stacks
    c.after_value.new.reading a.end c.after_value.result
    (value-read policy p t a.reading.now.stacks a.slot here.0 here.1 a.at (done (view a.value) a.end) c.requires.value
    ∙ put.value policy p t a.end)
    put.nest (omega (arith, put.held, c.requires.one)) c.requires.within.0 c.requires.within.1 put.keys then.leads
    then.memory then.root then.keys then.settings
