use Rattle.std.proofs.lemmas.Str.{IsCharBoundary-after_ascii}
use Rattle.jiter_value.proofs.QuotedKeys.{piece-more}
use Rattle.jiter_value.proofs.value.quoted.next_piece.Goals as goal

pub returns-in-Some-clause-text : goal.returns-in-Some-clause-text
returns-in-Some-clause-text c =
    piece-more c.args.key.now _ c.args.at c.requires.within
    (rw c.as_bytes-bytes.ensures.value at c.in-Some.ensures.0)

pub returns-in-Some-clause-boundary : goal.returns-in-Some-clause-boundary
returns-in-Some-clause-boundary c =
    IsCharBoundary-after_ascii c.args.key.now c.args.at c.utf8.key c.requires.within
    (rw c.as_bytes-bytes.ensures.value at c.in-Some.ensures.1)
