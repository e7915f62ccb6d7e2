use Rattle.jiter_value.proofs.ParsedUnique.{read-error}
use Rattle.jiter_value.proofs.parse.unique.unique_error_at.Goals as goal

pub returns-in-Read : goal.returns-in-Read
returns-in-Read c =
    rw c.in-Read.is
    (read-error c.in-Read.error c.args.index c.error_at.result c.from.result c.error_at.ensures c.from.ensures.0
    c.from.ensures.1)
