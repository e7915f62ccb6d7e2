use Rattle.jiter_incremental.proofs.Words.{◌-◌, subst, sym, string_bytes, text_view, Tree, view, Steps, IsPut, Reader, after_level}
use Rattle.jiter_incremental.specs.declared.reader.Awaits.TheVariants as awaits
use Rattle.jiter_incremental.specs.declared.reader.Token.TheVariants as token_kind
use Rattle.jiter_incremental.proofs.Arms.{turned}
use Rattle.jiter_incremental.proofs.Separators.{with-separator}
use Rattle.jiter_incremental.proofs.Documents.Blanks.{if-refused}
use Rattle.jiter_incremental.proofs.Documents.WholeTokens.{text-scalar}
use Rattle.jiter_incremental.proofs.NumberBegins.{stays-so}
use Rattle.jiter_incremental.proofs.Placing.{scalar-put}
use Rattle.jiter_incremental.proofs.TextBegins.{buffer-steps, text-kept}
use Rattle.jiter_incremental.proofs.reader.Reader.text.Goals as goal

pub returns-in_err-text-clause-stays : goal.returns-in_err-text-clause-stays
returns-in_err-text-clause-stays c =
    let i = c.args.self.now in
    if-refused c.from_residual.result
    (stays-so c.args.level c.args.chunk.now i (view c.args.slot.now) c.requires.here c.requires.token
    c.requires.awaited.free i.number c.text_within.new.buffer)

pub returns-in-Some-clause-steps : goal.returns-in-Some-clause-steps
returns-in-Some-clause-steps c =
    let i = c.args.self.now in
    let level = c.args.level in
    let chunk = c.args.chunk.now in
    let v = view c.args.slot.now in
    let w = view c.put.new.slot in
    let e = c.in-Some.end in
    let within = rw c.in-Some.is at c.in_ok-text.ensures in
    let put = subst (λ (x : Tree). IsPut level v (text_view i.key) x w) c.text_value.ensures c.put.ensures.put in
    let key = c.put.new.self.key in
    let buffer = c.text_within.new.buffer in
    let q = record (turned i (after_level level) i.depth key) { token = token_kind.Nothing } in
    let all = buffer-steps level chunk i v q w (e - i.at) buffer
    (scalar-put level chunk i v c.requires.here c.requires.token c.requires.awaited c.requires.other key
    _ w e c.requires.low put (text-scalar chunk i.at (string_bytes c.in-Some.text) e within)) in
    with-separator level chunk i v (record q { buffer = buffer }) w e c.requires.here all (λ _. (c.requires.here.unset, c.requires.here.here)) c.put.new.self c.past_separator.new.self c.past_separator.result c.put.ensures.is c.past_separator.ensures

pub returns-in-None-clause-steps : goal.returns-in-None-clause-steps
returns-in-None-clause-steps c =
    let i = c.args.self.now in
    let level = c.args.level in
    let chunk = c.args.chunk.now in
    let v = view c.args.slot.now in
    let begun = λ (r : Reader). record r { awaits = awaits.Value } in
    subst (λ r. Steps level chunk i v (begun r) v 1) (sym c.begin_string.ensures.is)
    (text-kept level chunk i v c.requires.here c.requires.token c.requires.awaited c.requires.other c.requires.low
    c.requires.quote c.begin_string.new.self.string c.text_within.new.buffer c.begin_string.ensures.string)
