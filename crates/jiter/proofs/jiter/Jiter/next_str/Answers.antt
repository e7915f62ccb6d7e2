use Rattle.jiter.proofs.Words.{◌≡◌, refl, subst, Some, slice_get, ReaderState, value_place}
use Rattle.jiter.proofs.FastReplies.{decoded}
use Rattle.jiter.proofs.jiter.Jiter.next_str.Goals as goal

pub returns-in-Ok : goal.returns-in-Ok
returns-in-Ok c =
    let at = c.peek_for.result.0 in
    let is = c.self.view_is in
    let quote : slice_get c.self.inside.parser.bytes.now at ≡ Some 34 = cc in
    let reads = decoded _ c.args.self.now at _ _ c.in-Ok.text is
    (subst (λ (v : ReaderState). at ≡ value_place v) is c.peek_for.ensures.place)
    (subst (λ (v : ReaderState). slice_get v.text at ≡ Some 34) is quote)
    (c.in-Ok.ensures.value c.self.inside.allow_partial_strings) refl in
    ((refl, (λ _. tt), reads), record { reads = (_, reads); after = tt })
