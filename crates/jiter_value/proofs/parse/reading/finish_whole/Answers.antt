use Rattle.jiter_value.proofs.Words.{◌≡◌, ◌≢◌, ap, refl, true, is_active, PartialMode, err_from_is_err_and, rules_as}
use Rattle.jiter_value.proofs.WholeTextAnswers.{answer-prefix, answer-end, answer-trailing}
use Rattle.jiter_value.proofs.parse.reading.finish_whole.Goals as goal

active : (m : PartialMode) → m ≢ PartialMode.Off → is_active m ≡ true
active PartialMode.Off h = absurd (h refl)
active PartialMode.On _ = refl
active PartialMode.TrailingStrings _ = refl

pub returns-in_default-clause-value : goal.returns-in_default-clause-value
returns-in_default-clause-value g c =
    let a = c.args in
    let on = active a.settings.mode c.in_default.not-Off in (
      _,
      answer-prefix (rules_as g.T.StringStorage.policy a.settings) a.settings.mode a.parser.now.bytes.now c.requires.begins
          _ _ c.requires.value on,
    )

pub returns-clause-value : goal.returns-clause-value
returns-clause-value g c =
    let a = c.args in
    let off = ap is_active c.in-Off.is in
    let ends = c.in_ok-finish.ensures.value in (
      _,
      answer-end (rules_as g.T.StringStorage.policy a.settings) a.settings.mode a.parser.now.bytes.now c.requires.begins
          _ _ c.requires.value _ off ends,
    )

pub returns-in_err-finish-clause-value : goal.returns-in_err-finish-clause-value
returns-in_err-finish-clause-value g c =
    let a = c.args in
    let off = ap is_active c.in-Off.is in
    let e = err_from_is_err_and c.from_residual.result c.from_residual.ensures.1 in
    rw (e.1, e.2)
    (answer-trailing (rules_as g.T.StringStorage.policy a.settings) a.settings.mode a.parser.now.bytes.now c.requires.begins
    _ _ c.requires.value _ _
    c.finish.new.self.index off c.in_err-finish.ensures.value)
