use Rattle.std.proofs.lemmas.Option.{IfSome_then}
use Rattle.viewer.proofs.StringEnd.{broke-at-end, broke-off, cut-shown, ended, ran}
use Rattle.viewer.proofs.view.run.Goals as goal

pub returns-in_err-follow-clause-wrote : goal.returns-in_err-follow-clause-wrote
returns-in_err-follow-clause-wrote g c =
    let settings = c.args.settings in
    broke-off settings _ _ _ _ _ c.from_residual.ensures.0
    (c.in_err-follow.ensures.prefix settings.options c.new-input.ensures)

pub returns-in_err-follow-clause-cut : goal.returns-in_err-follow-clause-cut
returns-in_err-follow-clause-cut g c = cut-shown c.args.settings.options

pub returns-in_err-write_value-clause-wrote : goal.returns-in_err-write_value-clause-wrote
returns-in_err-write_value-clause-wrote g c =
    let settings = c.args.settings in
    let followed = c.in_ok-follow.ensures in
    broke-at-end settings _ _ _ _ _ _ c.from_residual-in_err-write_value.ensures.0
    (followed.shown settings.options c.new-input.ensures)
    (IfSome_then _ (followed.all settings.options c.new-input.ensures) (c.in_err-write_value.ensures.prefix settings.options))

pub returns-in_err-write_value-clause-cut : goal.returns-in_err-write_value-clause-cut
returns-in_err-write_value-clause-cut g c = cut-shown c.args.settings.options

pub returns-clause-wrote : goal.returns-clause-wrote
returns-clause-wrote g c =
    let settings = c.args.settings in
    let followed = c.in_ok-follow.ensures in
    let arrived = followed.all settings.options c.new-input.ensures in
    ran settings _ _ _ _ _ _ c.finish.result (followed.shown settings.options c.new-input.ensures)
    (IfSome_then _ arrived (c.in_ok-write_value.ensures.whole settings.options))
    (IfSome_then _ arrived c.finish.ensures)

pub returns-clause-document : goal.returns-clause-document
returns-clause-document g c =
    let settings = c.args.settings in
    let arrived = c.in_ok-follow.ensures.all settings.options c.new-input.ensures in
    ended settings _ _ _ c.finish.result (IfSome_then _ arrived c.finish.ensures)

pub returns-clause-cut : goal.returns-clause-cut
returns-clause-cut g c = cut-shown c.args.settings.options
