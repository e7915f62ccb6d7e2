use Rattle.std.proofs.Common.{◌∙◌, ap, subst}
use Rattle.jiter_print.specs.Written.{AppendsPrefix}
use Rattle.json_screen.specs.Parts.{inside_of}
use Rattle.viewer.specs.Shown.{line_at, new_line}
use Rattle.viewer.proofs.Following.{if-err}
use Rattle.viewer.proofs.Lines.{first-line}
use Rattle.viewer.proofs.view.write_value.Goals as goal

pub returns-in_err-show_line-clause-prefix : goal.returns-in_err-show_line-clause-prefix
returns-in_err-show_line-clause-prefix g c = λ options t h.
    let line = line_at options t in
    let first = ap (λ l. new_line l line) c.new.ensures ∙ first-line line in
    let prefix = c.in_err-show_line.ensures.prefix options (inside_of t) h.read in
    if-err c.from_residual.result (rw c.in-Value.is
    (subst (AppendsPrefix (g.O.Write.contents c.args.out.now) (g.O.Write.contents c.show_line.new.out)) first prefix))
