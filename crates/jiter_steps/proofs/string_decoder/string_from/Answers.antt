use Rattle.jiter_steps.proofs.Words.{◌≡◌, ◌≢◌, ◌+◌, ◌∙◌, arith, inl, inr, length, subst, sym, true, false≢true}
use Rattle.jiter_steps.proofs.Words.{slice_get_within, IsLook, text_form}
use Rattle.jiter_steps.proofs.Calls.FastAnswers.{plain-utf8}
use Rattle.jiter_steps.proofs.Calls.Looks.{look-checked, look-ended, look-plain, look-unkept}
use Rattle.jiter_steps.proofs.Calls.PlainRuns.{plain_run-within}
use Rattle.jiter_steps.proofs.Calls.StringAnswers.{string-advances}
use Rattle.jiter_steps.proofs.string_decoder.string_from.Goals as goal

pub utf8_text-requires : goal.utf8_text-requires
utf8_text-requires c =
    let found = c.args.found in
    plain-utf8 _ (subst (IsLook c.args.bytes.now (c.args.at + 1) found.0) c.in_default-Plain.is-1 c.requires.found).1

pub returns-in_default-Plain-clause-value : goal.returns-in_default-Plain-clause-value
returns-in_default-Plain-clause-value c =
    let t = c.args.bytes.now in
    let at = c.args.at in
    let found = c.args.found in
    let means = subst (IsLook t (at + 1) found.0) c.in_default-Plain.is-1 c.requires.found in
    rw c.utf8_text.ensures (look-plain t at found.0 c.requires.within c.requires.stop means c.args.partial)

pub returns-in_default-Plain-clause-advances : goal.returns-in_default-Plain-clause-advances
returns-in_default-Plain-clause-advances c =
    let t = c.args.bytes.now in
    let found = c.args.found in
    let means = subst (IsLook t (c.args.at + 1) found.0) c.in_default-Plain.is-1 c.requires.found in
    let run = plain_run-within t (c.args.at + 1) (omega (arith, c.requires.within)) in
    (omega (arith, c.requires.stop, run.0), omega (arith, slice_get_within t found.0 34 means.0))

pub returns-in_default-Utf8-clause-value : goal.returns-in_default-Utf8-clause-value
returns-in_default-Utf8-clause-value c =
    let t = c.args.bytes.now in
    let at = c.args.at in
    let found = c.args.found in
    let means = subst (IsLook t (at + 1) found.0) c.in_default-Utf8.is-1 c.requires.found in
    rw (look-checked t at found.0 c.requires.within c.requires.stop means c.args.partial) c.borrow_text.ensures.value

pub returns-in_default-Utf8-clause-advances : goal.returns-in_default-Utf8-clause-advances
returns-in_default-Utf8-clause-advances c =
    string-advances c.args.bytes.now c.args.at c.requires.within (text_form c.args.partial) c.borrow_text.result
    (returns-in_default-Utf8-clause-value c)

pub returns-in_default-Escaped-clause-advances : goal.returns-in_default-Escaped-clause-advances
returns-in_default-Escaped-clause-advances c =
    string-advances c.args.bytes.now c.args.at c.requires.within _ c.decode_text.result c.decode_text.ensures

pub returns-then-to-bytes-clause-value : goal.returns-then-to-bytes-clause-value
returns-then-to-bytes-clause-value c =
    let found = c.args.found in
    let kept = look-ended c.args.bytes.now c.args.at found.0 c.requires.within c.requires.stop c.if-to-bytes.true in
    rw (c.if-partial.true, kept) (rw c.if-partial.true at c.borrow_text-then-to-bytes.ensures.value)

pub returns-else-partial-clause-value : goal.returns-else-partial-clause-value
returns-else-partial-clause-value c =
    let t = c.args.bytes.now in
    let at = c.args.at in
    let found = c.args.found in
    let fault = c.in_default-Fault in
    let means = subst (IsLook t (at + 1) found.0) fault.is-1 c.requires.found in
    let more : c.args.partial ≡ true → found.0 ≢ length t =
    λ kept. elim c.else-partial.either [ inl unended ↦ unended.1 | inr whole ↦ absurd (false≢true (sym whole ∙ kept)) ] in
    rw c.fault_at.ensures (look-unkept t at found.0 c.requires.within c.requires.stop c.args.partial fault.kind means more)
