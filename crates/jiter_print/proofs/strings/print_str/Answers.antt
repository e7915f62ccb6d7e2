use Rattle.jiter_print.specs.Layout.{compact}
use Rattle.jiter_print.specs.Printed.{string_from}
use Rattle.jiter_print.proofs.PrintLaw.{printed-again}
use Rattle.jiter_print.proofs.strings.print_str.Goals as goal

pub returns-in-Ok-clause-again : goal.returns-in-Ok-clause-again
returns-in-Ok-clause-again c names = printed-again compact names (string_from c.args.text.now) c.utf8.text

pub returns-in-Err-clause-again : goal.returns-in-Err-clause-again
returns-in-Err-clause-again c names = printed-again compact names (string_from c.args.text.now) c.utf8.text
