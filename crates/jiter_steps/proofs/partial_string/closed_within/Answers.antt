use Rattle.jiter_steps.proofs.Words.{◌∙◌, IsUtf8-string_bytes, string_bytes}
use Rattle.jiter_steps.proofs.Chunks.OpenStrings.{text-within}
use Rattle.jiter_steps.proofs.partial_string.closed_within.Goals as goal

pub returns : goal.returns
returns c =
    let own = c.in_ok-copy_text.field-0 in
    let r = c.requires in
    text-within c.args.chunk.now c.args.at c.args.to r.stop r.first r.last (string_bytes own)
    (c.in_ok-copy_text.ensures ∙ r.text) (IsUtf8-string_bytes own)
