use Rattle.jiter_value.proofs.Words.{◌∙◌, refl, sym}
use Rattle.jiter_value.specs.declared.parse.stacks.State.TheVariants as state
use Rattle.jiter_value.proofs.Turning.{come-on, goes-on, keys-left, not-once, on-if, value-on}
use Rattle.jiter_value.proofs.parse.turns.Reading.go.Goals.{in-Done, in-GivenUp, in-Key+then-has_stopped, then-this-ne0}
use Rattle.jiter_value.proofs.parse.turns.Reading.go.Goals.{in-Key+else-has_stopped, in_default}
use Rattle.jiter_value.proofs.parse.turns.Reading.go.Goals as goal

pub turning-preserved : goal.turning-preserved
turning-preserved g c =
    let t = c.args.bytes.now in
    let policy = g.T.StringStorage.policy in
    let l = c.turning in
    let v = l.invariant in
    let s = l.self.stacks in
    elim c.match-state.branch [
      | in-Key+else-has_stopped w ↦
          let e = w.key_turn-turned.ensures in
          let going = sym w.has_stopped.ensures ∙ w.if-has_stopped.false in
          rw (w.self-is, w.keys-is, w.next-is) (
            λ i h. rw e.settings (come-on policy g.T.StringStorage.wants t i l.self.settings s l.at state.Key
                (rw w.in-Key.is at (v.0 i h)) tt _ _ _ _ (e.turned.leads going) (λ root. absurd (cc))),
            e.settings ∙ v.1,
            e.serves,
            going,
            λ on. on-if w.key_turn-turned.new.reading.stacks w.key_turn-turned.result.1 on (e.turned.keys going),
            λ once. absurd (not-once _ once c.if-this-ne0.false),
          )
      | in_default w ↦
          let e = w.value_turn.ensures in
          let more = goes-on l.state w.in_default.not-Done w.in_default.not-GivenUp in
          let known = v.4 more in
          rw (w.self-is, w.keys-is, w.next-is) (
            λ i h. rw e.settings (value-on policy g.T.StringStorage.wants t i l.self.settings s l.at l.state (v.0 i h) more
                w.in_default.not-Key _ refl _ _ _ e.leads e.memory),
            e.settings ∙ v.1,
            v.2,
            v.3,
            λ on. (
              known.0,
              known.1,
              keys-left known.0 s.members.items _ known.2
                  (on-if w.value_turn.new.reading.stacks w.value_turn.result.1 on e.keys),
            ),
            λ once. absurd (not-once _ once c.if-this-ne0.false),
          )
    ]

pub returns-clause-gone : goal.returns-clause-gone
returns-clause-gone g c = λ i h.
    let t = c.args.bytes.now in
    let policy = g.T.StringStorage.policy in
    let l = c.turning in
    let v = l.invariant in
    let s = l.self.stacks in
    elim c.match-state.branch [
      | in-Done w ↦ rw (w.self-is, w.at-is, w.state-is) (v.0 i h)
      | in-GivenUp w ↦ rw (w.self-is, w.at-is, w.state-is) (v.0 i h)
      | in-Key+then-has_stopped w ↦
          let e = w.key_turn-turned.ensures in
          let stop = sym w.has_stopped.ensures ∙ w.if-has_stopped.true in
          rw (w.self-is, w.at-is, w.state-is, e.settings, (e.turned.same stop).0) (v.0 i h)
      | then-this-ne0 w ↦
          rw (w.self-is, w.at-is, w.state-is) (elim w.match-state.branch [
            | in-Key+else-has_stopped k ↦
                let e = k.key_turn-turned.ensures in
                let going = sym k.has_stopped.ensures ∙ k.if-has_stopped.false in
                rw (k.self-is, k.next-is, e.settings) (come-on policy g.T.StringStorage.wants t i l.self.settings s l.at state.Key
                (rw k.in-Key.is at (v.0 i h)) tt _ _ _ _ (e.turned.leads going) (λ root. absurd (cc)))
            | in_default k ↦
                let e = k.value_turn.ensures in
                let more = goes-on l.state k.in_default.not-Done k.in_default.not-GivenUp in
                rw (k.self-is, k.next-is, e.settings) (value-on policy g.T.StringStorage.wants t i l.self.settings s l.at l.state
                (v.0 i h) more k.in_default.not-Key _ refl _ _ _ e.leads e.memory)
          ])
    ]
