use Rattle.jiter_steps.proofs.Words.{◌+◌, ◌++◌, ◌∙◌, ap, arith, take, encode_utf8, take-set_at}
use Rattle.jiter_steps.proofs.Calls.DecodeSteps.{encode-sign}
use Rattle.jiter_steps.proofs.string_decoder.put_escape.Goals as goal

pub returns-then-sign-ne0-clause-put : goal.returns-then-sign-ne0-clause-put
returns-then-sign-ne0-clause-put c =
    let items = c.args.buffer.now.items in
    let end = c.args.end in
    let sign = c.fast_escape_at-sign in
    record {
      bytes = encode_utf8 sign.result.0;
      is = sign.ensures.sign c.if-sign-ne0.true;
      put = take-set_at items end (end + 1) sign.result.0 (omega arith) (omega arith)
          ∙ ap (λ w. take end items ++ w) (encode-sign sign.result.0 sign.ensures.ascii);
    }
