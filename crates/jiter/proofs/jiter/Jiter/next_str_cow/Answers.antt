use Rattle.jiter.proofs.Words.{◌≡◌, subst, Some, slice_get, text_view, ReaderState, value_place}
use Rattle.jiter.proofs.FastReplies.{string-given}
use Rattle.jiter.proofs.jiter.Jiter.next_str_cow.Goals as goal

pub returns-in-Ok : goal.returns-in-Ok
returns-in-Ok c =
    let at = c.peek_for.result.0 in
    let is = c.self.view_is in
    let quote : slice_get c.self.inside.parser.bytes.now at ≡ Some 34 = cc in
    record {
      reads = string-given text_view _ _ c.args.self.now at _ is
          (subst (λ (v : ReaderState). at ≡ value_place v) is c.peek_for.ensures.place)
          (subst (λ (v : ReaderState). slice_get v.text at ≡ Some 34) is quote)
          (c.in-Ok.ensures.value c.self.inside.allow_partial_strings);
    }
