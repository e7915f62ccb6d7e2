use Rattle.jiter_steps.proofs.Words.{◌+◌, ◌∙◌, Some, ap, subst, IsLook}
use Rattle.jiter_steps.proofs.Calls.FastAnswers.{plain-utf8}
use Rattle.jiter_steps.proofs.Calls.Looks.{look-whole}
use Rattle.jiter_steps.proofs.Grammar.Places.{got}
use Rattle.jiter_steps.proofs.partial_string.text_within.Goals as goal

pub utf8_text-requires : goal.utf8_text-requires
utf8_text-requires c =
    let found = c.look_at in
    let means = subst (IsLook c.args.chunk.now (c.args.at + 1) found.result.0) c.in_default-Plain.is-1 found.ensures.means in
    plain-utf8 _ means.1

pub decoded_within-requires-clause-first : goal.decoded_within-requires-clause-first
decoded_within-requires-clause-first c = got c.args.chunk.now c.args.at c.requires ∙ ap Some c.if-chunk-at-ne34.false

pub closed_within-requires-in-Ok-clause-text : goal.closed_within-requires-in-Ok-clause-text
closed_within-requires-in-Ok-clause-text c =
    let found = c.look_at in
    look-whole c.args.chunk.now c.args.at found.result.0 c.requires found.ensures.stop c.in-Ok.text.now 0
    (c.in-Ok.ensures.value 0)
