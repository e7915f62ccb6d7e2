use Rattle.jiter_incremental.proofs.reader.Reader.is_over.Goals as goal

pub returns-in-None-clause-unset : goal.returns-in-None-clause-unset
returns-in-None-clause-unset c = λ off. c.requires c.in-None.is
