use Rattle.jiter_incremental.proofs.Words.{arith, ◌∙◌, ap, subst, sym, true, text_view, view, AsRead, with_shown, IsPut}
use Rattle.jiter_incremental.proofs.Words.{Reader, document, null}
use Rattle.jiter_incremental.proofs.Showing.{shown-scalar, shows-moved}
use Rattle.jiter_incremental.proofs.reader.Reader.show.Goals as goal

pub shown_value-value-requires-clause-shown : goal.shown_value-value-requires-clause-shown
shown_value-value-requires-clause-shown c = sym (c.is_showable.ensures null) ∙ c.if-is_showable.true

pub put_in-requires : goal.put_in-requires
put_in-requires c =
    let i = c.args.self.now in
    let a = c.requires.paused.apart (omega (arith, c.if-level-self.false)) in
    (a.1 (shown-scalar (document i null) (sym (c.is_showable.ensures null) ∙ c.if-is_showable.true))).1

pub returns-then-is_showable-clause-shows : goal.returns-then-is_showable-clause-shows
returns-then-is_showable-clause-shows c =
    let i = c.args.self.now in
    let level = c.args.level in
    let v = view c.args.slot.now in
    let w = view c.put_in.new.slot in
    let x = view c.shown_value-value.result in
    let m = c.shown_value-value.new.self in
    let k = c.put_in.new.key in
    let a = c.requires.paused.apart (omega (arith, c.if-level-self.false)) in
    let same = c.shown_value-value.ensures.same in
    let put = subst (λ (r : Reader). IsPut level v (text_view r.key) x w) same c.put_in.ensures in
    subst (λ (j : Reader). AsRead level i v j w) (sym (ap (λ (r : Reader). with_shown r true m.number m.string k) same))
    (shows-moved level i v w x m.number m.string k (sym c.if-level-self.false) a.0
    (λ y. sym (c.is_showable.ensures y) ∙ c.if-is_showable.true) c.shown_value-value.ensures.value
    c.shown_value-value.ensures.moved put)

pub returns-else-is_showable-clause-complete : goal.returns-else-is_showable-clause-complete
returns-else-is_showable-clause-complete c = λ unset hidden.
    sym (c.is_showable.ensures null) ∙ c.if-is_showable.false
