use Rattle.jiter_incremental.proofs.Words.{arith, ap, false, refl, subst, sym, ◌∙◌, ◌≡◌, view, AsRead, with_shown, Reader}
use Rattle.std.proofs.lemmas.Result.{on_ok_weaker}
use Rattle.jiter_incremental.proofs.Settling.{calm_other, room_other}
use Rattle.jiter_incremental.proofs.Showing.{container-read, hides-moved, paused-so, shown-part}
use Rattle.jiter_incremental.proofs.reader.Reader.hide.Goals as goal

pub take_from-value-requires : goal.take_from-value-requires
take_from-value-requires c =
    let r = c.requires.read in
    shown-part c.args.level c.args.self.now (view c.args.slot.now) r.0 r.1 r.2
    (omega (arith, c.requires.above, c.if-level-self.false)) c.requires.unset c.if-self.true r.3 r.4

pub returns-then-self-clause-hides : goal.returns-then-self-clause-hides
returns-then-self-clause-hides c =
    let i = c.args.self.now in
    let level = c.args.level in
    let v = view c.args.slot.now in
    let w = view c.take_from-value.new.slot in
    let m = c.give_back.new.self in
    subst (λ (j : Reader). AsRead level i v j w)
    (sym (ap (λ (r : Reader). with_shown r false m.number m.string r.key) c.give_back.ensures.same))
    (hides-moved level i v w (view c.take_from-value.result) m.number m.string c.take_from-value.new.key
    (omega (arith, c.requires.above, c.if-level-self.false))
    c.requires.unset c.if-self.true c.take_from-value.ensures.taken c.give_back.ensures.number c.give_back.ensures.text)

pub returns-then-self-clause-paused : goal.returns-then-self-clause-paused
returns-then-self-clause-paused c =
    let here : c.args.self.now.depth ≡ c.args.level = omega (arith, c.requires.above, c.if-level-self.false) in
    paused-so c.args.level _ c.take_from-value.new.slot refl
    (λ is. (ap (λ (r : Reader). r.depth) c.give_back.ensures.same ∙ here, c.take_from-value.ensures.room))

pub returns-in-Number-clause-hides : goal.returns-in-Number-clause-hides
returns-in-Number-clause-hides c =
    let i = c.args.self.now in
    subst (λ w. AsRead c.args.level i (view c.args.slot.now) i w) (sym c.reserve_in.ensures.same)
    (record { goes = λ n t outer at h. h })

pub returns-in-Number-clause-paused : goal.returns-in-Number-clause-paused
returns-in-Number-clause-paused c =
    let i = c.args.self.now in
    let level = c.args.level in
    let r = c.requires.read in
    let here : i.depth ≡ level = omega (arith, c.requires.above, c.if-level-self.false) in
    on_ok_weaker c.reserve_in.result
    (λ room.
    paused-so level i c.reserve_in.new.slot c.if-self.false
    (λ is.
    (here, λ some. room (container-read level i (view c.args.slot.now) r.0 r.1 r.2 here c.requires.unset r.3 r.4 some))))
    c.reserve_in.ensures.room

pub returns-in_default-clause-paused : goal.returns-in_default-clause-paused
returns-in_default-clause-paused c =
    let i = c.args.self.now in
    paused-so c.args.level i c.args.slot.now c.if-self.false
    (room_other c.args.level i c.args.slot.now (calm_other i.token c.in_default.not-Number c.in_default.not-Text))
