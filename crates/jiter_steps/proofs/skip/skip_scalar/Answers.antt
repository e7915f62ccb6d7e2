use Rattle.jiter_steps.proofs.Words.{◌∙◌, ap, sym, err_from_is_err_and, scalar_at}
use Rattle.jiter_steps.proofs.Calls.Skipping.{number-value}
use Rattle.jiter_steps.proofs.skip.skip_scalar.Goals as goal

pub returns-in_ok-parser-in-Number-clause-value : goal.returns-in_ok-parser-in-Number-clause-value
returns-in_ok-parser-in-Number-clause-value c = λ levels.
    let p = c.args.parser.now in
    number-value c.args.allow_inf_nan p.bytes.now levels p.index (sym c.start_of.ensures ∙ c.in-Number.is)
    ∙ ap (scalar_at p.index) c.in_ok-parser-in-Number.ensures.value

pub returns-in_err-parser-in-Number-clause-value : goal.returns-in_err-parser-in-Number-clause-value
returns-in_err-parser-in-Number-clause-value c = λ levels.
    let p = c.args.parser.now in
    let e = err_from_is_err_and c.from_residual-in_err-parser-in-Number.result c.from_residual-in_err-parser-in-Number.ensures.1 in
    rw (e.1, e.2)
    (number-value c.args.allow_inf_nan p.bytes.now levels p.index (sym c.start_of.ensures ∙ c.in-Number.is)
    ∙ ap (scalar_at p.index) c.in_err-parser-in-Number.ensures.value)
