use Rattle.jiter_incremental.proofs.Words.{List, arith, length, ℕ, ◌+◌, ◌∙◌, ap, sym, subst, IsOfString, IsPutSo, Steps, Reader, view}
use Rattle.jiter_incremental.proofs.StringSteps.{none-of, put-settled, quote-kept-put, quote-low, quote-refused, quote-whole-put}
use Rattle.jiter_incremental.proofs.reader.Reader.close_string.Goals as goal

pub overflow_add-index-2 : goal.overflow_add-index-2
overflow_add-index-2 c =
    let h = c.requires.here in
    let low =
    quote-low c.args.level c.args.chunk.now c.args.self.now (view c.args.slot.now) h c.requires.token c.requires.quote
    c.requires.whole in
    omega (arith, low, ap length c.text.ensures, h.room, h.inside)

pub returns-then-is_text-clause-steps : goal.returns-then-is_text-clause-steps
returns-then-is_text-clause-steps c =
    quote-whole-put c.args.level c.args.chunk.now c.args.self.now (view c.args.slot.now) c.requires.here
    c.requires.token c.requires.quote c.requires.whole c.if-is_text.ensures.closed c.put_text.new.self
    (view c.put_text.new.slot)
    c.put_text.ensures

pub returns-then-is_text-2-clause-steps : goal.returns-then-is_text-2-clause-steps
returns-then-is_text-2-clause-steps c =
    let i = c.args.self.now in
    let place = ap (λ (x : List ℕ). i.begin + 1 + length x) c.text.ensures in
    let put = c.put_text-then-is_text-2.ensures in
    quote-kept-put c.args.level c.args.chunk.now i (view c.args.slot.now) c.requires.here c.requires.token
    c.requires.quote c.requires.whole c.keeps-kept.result c.keeps-kept.ensures.text c.keeps-kept.ensures.key
    c.if-is_text.ensures.closed _ place c.if-is_text-2.ensures.closed c.put_text-then-is_text-2.new.self
    (view c.put_text-then-is_text-2.new.slot)
    (subst (λ (r : Reader). IsPutSo c.args.level r (view c.args.slot.now) c.put_text-then-is_text-2.new.self
    (view c.put_text-then-is_text-2.new.slot)) c.note.ensures put)

pub returns-else-is_text-2-clause-steps : goal.returns-else-is_text-2-clause-steps
returns-else-is_text-2-clause-steps c =
    let i = c.args.self.now in
    let v = view c.args.slot.now in
    let place = ap (λ (x : List ℕ). i.begin + 1 + length x) c.text.ensures in
    subst (λ (j : Reader). Steps c.args.level c.args.chunk.now i v j v 1) (sym c.refuse.ensures)
    (quote-refused c.args.level c.args.chunk.now i v c.requires.here c.requires.token
    c.requires.quote c.requires.whole c.keeps-kept.result c.keeps-kept.ensures.text c.keeps-kept.ensures.key
    c.if-is_text.ensures.closed _ place c.if-is_text-2.ensures.closed)

pub returns-then-is_text-clause-closed : goal.returns-then-is_text-clause-closed
returns-then-is_text-clause-closed c = λ _.
    put-settled c.args.level c.args.self.now (view c.args.slot.now) c.put_text.new.self (view c.put_text.new.slot)
    c.requires.token c.requires.here.unset c.requires.here.here
    c.put_text.ensures

pub returns-then-is_text-2-clause-closed : goal.returns-then-is_text-2-clause-closed
returns-then-is_text-2-clause-closed c = λ _.
    let put = c.put_text-then-is_text-2.ensures in
    let same = c.note.ensures in
    put-settled c.args.level c.note.new.self (view c.args.slot.now) c.put_text-then-is_text-2.new.self
    (view c.put_text-then-is_text-2.new.slot)
    (subst IsOfString (sym (ap (λ (r : Reader). r.token) same)) c.requires.token)
    (ap (λ (r : Reader). r.fault) same ∙ c.requires.here.unset) (ap (λ (r : Reader). r.depth) same ∙ c.requires.here.here) put

pub returns-else-is_text-2-clause-closed : goal.returns-else-is_text-2-clause-closed
returns-else-is_text-2-clause-closed c = λ none.
    absurd (none-of c.args.self.now.token c.requires.token (sym (ap (λ (r : Reader). r.token) c.refuse.ensures) ∙ none))
