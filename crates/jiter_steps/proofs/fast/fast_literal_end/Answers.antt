use Rattle.jiter_steps.proofs.Words.{◌+◌, ◌∙◌, ◌∷◌, [], refl, ap, arith, Some}
use Rattle.jiter_steps.proofs.Grammar.Places.{got}
use Rattle.jiter_steps.proofs.Calls.FastAnswers.{plain-letter, plain-four}
use Rattle.jiter_steps.proofs.fast.fast_literal_end.Goals as goal

pub returns-in-Null-clause-value : goal.returns-in-Null-clause-value
returns-in-Null-clause-value c =
    let h = c.if-has_four.ensures in
    rw c.in-Null.is (plain-four c.args.bytes.now 110 117 108 108 c.args.at _ (h.first refl) (h.second refl)
    (h.third refl) (h.fourth refl) refl)

pub returns-in-True-clause-value : goal.returns-in-True-clause-value
returns-in-True-clause-value c =
    let h = c.if-has_four-2.ensures in
    rw c.in-True.is (plain-four c.args.bytes.now 116 114 117 101 c.args.at _ (h.first refl) (h.second refl)
    (h.third refl) (h.fourth refl) refl)

pub returns-in-False-clause-value : goal.returns-in-False-clause-value
returns-in-False-clause-value c =
    let t = c.args.bytes.now in
    let i = c.args.at in
    let h = c.if-has_four-3.ensures in
    let first = got t i c.requires ∙ ap Some c.if-bytes-at-eq102.true in
    rw c.in-False.is (plain-letter t 102 (97 ∷ 108 ∷ 115 ∷ 101 ∷ []) i (i + 1) first refl
    ∙ plain-four t 97 108 115 101 _ (i + 5) (h.first refl) (h.second refl) (h.third refl) (h.fourth refl) (omega arith))
