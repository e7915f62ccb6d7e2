use Rattle.jiter_scan.proofs.Words.{◌++◌, take, ap, sym, ◌∙◌, arith}
use Rattle.jiter_scan.proofs.Tapes.{put-two, put-three, put-four, encode-two, encode-three, encode-four}
use Rattle.jiter_scan.proofs.bytes.decode_buffer.put_char.Goals as goal

pub returns-then-code-lt2048-clause-text : goal.returns-then-code-lt2048-clause-text
returns-then-code-lt2048-clause-text c =
    let l = c.args.buffer.now.items in
    put-two l c.args.count _ _ (omega arith)
    ∙ ap (λ w. take c.args.count l ++ w) (sym (encode-two c.args.c (omega arith) (omega arith)))

pub returns-then-code-lt65536-clause-text : goal.returns-then-code-lt65536-clause-text
returns-then-code-lt65536-clause-text c =
    let l = c.args.buffer.now.items in
    put-three l c.args.count _ _ _ (omega arith)
    ∙ ap (λ w. take c.args.count l ++ w) (sym (encode-three c.args.c (omega arith) (omega arith)))

pub returns-clause-text : goal.returns-clause-text
returns-clause-text c =
    let l = c.args.buffer.now.items in
    put-four l c.args.count _ _ _ _ (omega arith)
    ∙ ap (λ w. take c.args.count l ++ w) (sym (encode-four c.args.c (omega arith)))
