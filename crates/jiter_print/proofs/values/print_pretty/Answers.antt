use Rattle.jiter_value.specs.Value.{view}
use Rattle.jiter_print.specs.Layout.{pretty}
use Rattle.jiter_print.proofs.PrintLaw.{held_lays_again}
use Rattle.jiter_print.proofs.values.print_pretty.Goals as goal

pub returns-in_err-end-clause-again : goal.returns-in_err-end-clause-again
returns-in_err-end-clause-again c names mode bytes read end is same =
    held_lays_again (pretty c.args.indent 0) names mode bytes read (view c.args.value.now) end is same

pub returns-clause-again : goal.returns-clause-again
returns-clause-again c names mode bytes read end is same =
    held_lays_again (pretty c.args.indent 0) names mode bytes read (view c.args.value.now) end is same
