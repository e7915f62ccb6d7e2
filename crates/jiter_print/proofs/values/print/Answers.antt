use Rattle.jiter_value.specs.Value.{view}
use Rattle.std.proofs.Common.{◌∙◌}
use Rattle.jiter_print.proofs.Laying.{compact-is}
use Rattle.jiter_print.proofs.PrintLaw.{held_prints_again}
use Rattle.jiter_print.proofs.values.print.Goals as goal

pub returns-in_err-end-clause-again : goal.returns-in_err-end-clause-again
returns-in_err-end-clause-again c names mode bytes read end is same =
    held_prints_again names mode bytes read (view c.args.value.now) end is same

pub returns-clause-text : goal.returns-clause-text
returns-clause-text c = c.truncate.ensures.items ∙ c.in_ok-end.ensures.0 ∙ compact-is (view c.args.value.now)

pub returns-clause-again : goal.returns-clause-again
returns-clause-again c names mode bytes read end is same =
    held_prints_again names mode bytes read (view c.args.value.now) end is same
