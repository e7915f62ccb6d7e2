use Rattle.jiter_incremental.proofs.Words.{refl, subst, sym, ◌+◌, ◌-◌, ◌≡◌, arith, Steps, TakesSeparator, refused, Reader, view}
use Rattle.jiter_incremental.proofs.Separators.{with-separator}
use Rattle.jiter_incremental.proofs.StringSteps.{quote-here, quote-is, quote-steps, string-stays, taken-steps, wrong-before, wrong-steps}
use Rattle.jiter_incremental.proofs.reader.Reader.take_string.Goals as goal

pub close_string-requires-clause-here : goal.close_string-requires-clause-here
close_string-requires-clause-here c =
    let r = c.requires in
    let s = c.next.new.self in
    let g = rw c.in-Ok-Quote.field-0-is at c.in-Ok-Quote.ensures.goes in
    quote-here c.args.level c.args.chunk.now c.args.self.now (view c.args.slot.now) r.here r.token s g

pub close_string-requires-clause-quote : goal.close_string-requires-clause-quote
close_string-requires-clause-quote c =
    let r = c.requires in
    let s = c.next.new.self in
    let g = rw c.in-Ok-Quote.field-0-is at c.in-Ok-Quote.ensures.goes in
    (quote-is c.args.level c.args.chunk.now c.args.self.now (view c.args.slot.now) r.here r.token s g).1

pub close_string-requires-clause-whole : goal.close_string-requires-clause-whole
close_string-requires-clause-whole c =
    let r = c.requires in
    let s = c.next.new.self in
    let g = rw c.in-Ok-Quote.field-0-is at c.in-Ok-Quote.ensures.goes in
    (quote-is c.args.level c.args.chunk.now c.args.self.now (view c.args.slot.now) r.here r.token s g).0

pub overflow_sub-position : goal.overflow_sub-position
overflow_sub-position c =
    let r = c.requires in
    let s = c.next.new.self in
    let g = rw c.in-Ok-Wrong.field-0-is at c.in-Ok-Wrong.ensures.goes in
    let low = wrong-before c.args.level c.args.chunk.now c.args.self.now (view c.args.slot.now) r.here r.token s c.in-Ok-Wrong.kind c.in-Ok-Wrong.back g in
    omega (arith, low, c.position.ensures)

pub returns-in-Ok-Taken-clause-steps : goal.returns-in-Ok-Taken-clause-steps
returns-in-Ok-Taken-clause-steps c =
    let r = c.requires in
    let s = c.next.new.self in
    let g = rw c.in-Ok-Taken.field-0-is at c.in-Ok-Taken.ensures.goes in
    taken-steps c.args.level c.args.chunk.now c.args.self.now (view c.args.slot.now) r.here r.token s c.in-Ok-Taken.count g
    (rw c.in-Ok-Taken.field-0-is at c.in-Ok-Taken.ensures.part)

pub returns-in-Ok-Quote-clause-steps : goal.returns-in-Ok-Quote-clause-steps
returns-in-Ok-Quote-clause-steps c =
    let r = c.requires in
    let level = c.args.level in
    let chunk = c.args.chunk.now in
    let i = c.args.self.now in
    let v = view c.args.slot.now in
    let j = c.close_string.new.self in
    let w = view c.close_string.new.slot in
    let g = rw c.in-Ok-Quote.field-0-is at c.in-Ok-Quote.ensures.goes in
    let all = quote-steps level chunk i v r.here r.token c.next.new.self g j w 1 c.close_string.ensures.steps in
    let one : 1 ≡ i.at + 1 - i.at = omega arith in
    let place : j.at ≡ i.at = all.moves.still.2 in
    let takes = subst (λ a. TakesSeparator chunk (a + 1) j c.past_separator.new.self c.past_separator.result) place c.past_separator.ensures in
    with-separator level chunk i v j w (i.at + 1) r.here (subst (λ n. Steps level chunk i v j w n) one all)
    c.close_string.ensures.closed j c.past_separator.new.self c.past_separator.result refl takes

pub returns-in-Ok-Wrong-clause-steps : goal.returns-in-Ok-Wrong-clause-steps
returns-in-Ok-Wrong-clause-steps c =
    let r = c.requires in
    let s = c.next.new.self in
    let g = rw c.in-Ok-Wrong.field-0-is at c.in-Ok-Wrong.ensures.goes in
    let v = view c.args.slot.now in
    let i = c.args.self.now in
    subst (λ (x : Reader). Steps c.args.level c.args.chunk.now i v x v 1)
    (sym (subst (λ n. c.refuse.new.self ≡ refused (record i { string = s }) c.in-Ok-Wrong.kind (n - c.in-Ok-Wrong.back))
    c.position.ensures c.refuse.ensures))
    (wrong-steps c.args.level c.args.chunk.now c.args.self.now (view c.args.slot.now) r.here r.token s c.in-Ok-Wrong.kind c.in-Ok-Wrong.back g)

pub returns-in-Err-clause-stays : goal.returns-in-Err-clause-stays
returns-in-Err-clause-stays c =
    string-stays c.args.level c.args.chunk.now c.args.self.now (view c.args.slot.now) c.requires.here c.requires.token
    c.next.new.self c.in-Err.ensures.refused
