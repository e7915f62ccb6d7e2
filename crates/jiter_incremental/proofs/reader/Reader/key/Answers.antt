use Rattle.jiter_incremental.proofs.Words.{refl, subst, sym, string_bytes, view, Steps, Reader}
use Rattle.std.specs.declared.borrow.CowStr.TheVariants.{Owned}
use Rattle.jiter_incremental.specs.declared.reader.Awaits.TheVariants as awaits
use Rattle.jiter_incremental.proofs.Documents.Blanks.{if-refused}
use Rattle.jiter_incremental.proofs.Separators.{with-separator}
use Rattle.jiter_incremental.proofs.NumberBegins.{stays-so}
use Rattle.jiter_incremental.proofs.TextBegins.{key-kept, key-whole}
use Rattle.jiter_incremental.proofs.reader.Reader.key.Goals as goal

pub returns-in_err-text-clause-stays : goal.returns-in_err-text-clause-stays
returns-in_err-text-clause-stays c =
    let i = c.args.self.now in
    if-refused c.from_residual.result
    (stays-so c.args.level c.args.chunk.now i (view c.args.slot.now) c.requires.here c.requires.token
    c.requires.awaited.free i.number c.text_within.new.buffer)

pub returns-in-Some-clause-steps : goal.returns-in-Some-clause-steps
returns-in-Some-clause-steps c =
    let i = c.args.self.now in
    let level = c.args.level in
    let chunk = c.args.chunk.now in
    let v = view c.args.slot.now in
    let e = c.in-Some.end in
    let buffer = c.text_within.new.buffer in
    let key = Owned c.in-Some.text in
    let whole = key-whole level chunk i v c.requires.here c.requires.token c.requires.awaited (string_bytes c.in-Some.text) e
    (rw c.in-Some.is at c.in_ok-text.ensures) key buffer refl in
    let q = record i { awaits = awaits.Colon; key = key; buffer = buffer } in
    with-separator level chunk i v q v e c.requires.here whole (λ _. (c.requires.here.unset, c.requires.here.here))
    q c.past_separator.new.self c.past_separator.result refl c.past_separator.ensures

pub returns-in-None-clause-steps : goal.returns-in-None-clause-steps
returns-in-None-clause-steps c =
    let i = c.args.self.now in
    let level = c.args.level in
    let chunk = c.args.chunk.now in
    let v = view c.args.slot.now in
    let begun = λ (r : Reader). record r { awaits = awaits.Colon } in
    subst (λ r. Steps level chunk i v (begun r) v 1) (sym c.begin_string.ensures.is)
    (key-kept level chunk i v c.requires.here c.requires.token c.requires.awaited c.begin_string.new.self.string
    c.text_within.new.buffer c.begin_string.ensures.string)
