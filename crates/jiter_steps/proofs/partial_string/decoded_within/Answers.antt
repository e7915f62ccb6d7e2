use Rattle.jiter_steps.proofs.Words.{◌∙◌, ap, subst, sym, take, true, IsTextWithin}
use Rattle.jiter_steps.proofs.Chunks.StringsWithin.{decoded-within}
use Rattle.jiter_steps.proofs.partial_string.decoded_within.Goals as goal

pub returns-in_ok-copy_text-in-Ok : goal.returns-in_ok-copy_text-in-Ok
returns-in_ok-copy_text-in-Ok c =
    let chunk = c.args.chunk.now in
    let at = c.args.at in
    let d = c.in-Ok in
    let decoded = take d.count c.decode.new.buffer.items in
    let text = c.utf8_text-text.ensures ∙ ap (take d.count) c.as_slice.ensures.value in
    subst (λ w. IsTextWithin chunk at w d.end) (sym (c.in_ok-copy_text-in-Ok.ensures ∙ text))
    (decoded-within chunk at d.end (record { owned = true; bytes = decoded }) d.ensures.text d.ensures.value
    c.requires.first)
