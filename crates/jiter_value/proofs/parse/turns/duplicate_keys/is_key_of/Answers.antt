use Rattle.jiter_value.proofs.Words.{◌≡◌, ◌∙◌, ◌+◌, ◌-◌, ◌<◌, sym, ap, arith, length, get_or, bytes_eq, length-map}
use Rattle.jiter_value.proofs.Words.{text_view, keys_of}
use Rattle.std.proofs.lemmas.Bool.Decides.{nat_tests}
use Rattle.jiter_value.proofs.DuplicateKeys.{key-of}
use Rattle.jiter_value.proofs.parse.turns.duplicate_keys.is_key_of.Goals as goal

pub returns-clause-same : goal.returns-clause-same
returns-clause-same c = λ same.
    let ms = c.args.members.now.items in
    let m = c.index.result.now in
    let i = c.args.number - 1 in
    let n : c.args.number ≡ i + 1 = grind (arith, nat_tests, c.if-number-eq0.false) in
    let few : i < length ms =
    grind (arith, nat_tests, n, c.if-number-eq0.false, c.if-len-number.false, c.len.ensures, c.args.members.now.ok) in
    let lt : i < length (keys_of ms) = omega (arith, few, length-map ms (λ x. (text_view x.0).bytes)) in
    let is : m ≡ get_or ms i m = c.index.ensures in
    (i, n, lt, ap (bytes_eq c.args.key.now) (key-of ms i m few is ∙ sym c.as_str.ensures.value) ∙ sym c.eq.ensures ∙ same)

pub returns-clause-other : goal.returns-clause-other
returns-clause-other c = λ other. λ i n lt.
    let ms = c.args.members.now.items in
    let m = c.index.result.now in
    let few : i < length ms = omega (arith, lt, length-map ms (λ x. (text_view x.0).bytes)) in
    let at : c.args.number - 1 ≡ i = omega (arith, n) in
    let is : m ≡ get_or ms i m = c.index.ensures ∙ ap (λ j. get_or ms j m) at in
    ap (bytes_eq c.args.key.now) (key-of ms i m few is ∙ sym c.as_str.ensures.value) ∙ sym c.eq.ensures ∙ other
