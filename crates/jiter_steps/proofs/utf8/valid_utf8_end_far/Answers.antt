use Rattle.jiter_steps.proofs.Words.{◌≡◌, ◌∙◌, drop, sym, ap, subst, drop-length, IsValidUpTo, utf8_error_len}
use Rattle.jiter_steps.proofs.Words.{IsUnfinished}
use Rattle.jiter_steps.proofs.Chunks.OpenTexts.{broken-after, nil-unfinished, open-after}
use Rattle.jiter_steps.proofs.utf8.valid_utf8_end_far.Goals as goal

pub returns-in-Ok-clause-open : goal.returns-in-Ok-clause-open
returns-in-Ok-clause-open c = λ _. subst IsUnfinished (sym (drop-length c.args.bytes.now)) nil-unfinished

pub returns-in-Err-clause-open : goal.returns-in-Err-clause-open
returns-in-Err-clause-open c =
    λ s.
    let bytes = c.args.bytes.now in
    let n = c.valid_up_to.result in
    let valid : IsValidUpTo bytes n = subst (IsValidUpTo bytes) (sym c.valid_up_to.ensures) c.in-Err.ensures.cases.1 in
    let error : utf8_error_len (drop n bytes) ≡ c.error_len.result =
    ap (λ m. utf8_error_len (drop m bytes)) c.valid_up_to.ensures ∙ sym c.in-Err.ensures.fault
    ∙ sym c.error_len.ensures in
    open-after bytes n valid c.error_len.result error (sym c.is_some.ensures ∙ s)

pub returns-in-Err-clause-wrong : goal.returns-in-Err-clause-wrong
returns-in-Err-clause-wrong c =
    λ s.
    let bytes = c.args.bytes.now in
    let n = c.valid_up_to.result in
    let valid : IsValidUpTo bytes n = subst (IsValidUpTo bytes) (sym c.valid_up_to.ensures) c.in-Err.ensures.cases.1 in
    let error : utf8_error_len (drop n bytes) ≡ c.error_len.result =
    ap (λ m. utf8_error_len (drop m bytes)) c.valid_up_to.ensures ∙ sym c.in-Err.ensures.fault
    ∙ sym c.error_len.ensures in
    broken-after bytes n valid c.error_len.result error (sym c.is_some.ensures ∙ s)
