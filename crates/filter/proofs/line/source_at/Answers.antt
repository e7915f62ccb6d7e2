use Rattle.filter.proofs.Walk.{one-failed, one-found}
use Rattle.filter.proofs.line.source_at.Goals as goal

pub returns-in_err-find_members-in-None-clause-reads : goal.returns-in_err-find_members-in-None-clause-reads
returns-in_err-find_members-in-None-clause-reads c = λ m.
    one-failed c.args.members.now c.args.line.now c.args.index m c.requires.within c.find_members.new.sources c.from_residual.result _ c.from_residual.ensures.1
    c.in_err-find_members-in-None.ensures.reads

pub returns-in_ok-find_members-in-None-clause-reads : goal.returns-in_ok-find_members-in-None-clause-reads
returns-in_ok-find_members-in-None-clause-reads c = λ m.
    one-found c.args.members.now c.args.line.now c.args.index m c.requires.within c.find_members.new.sources c.in_ok-find_members-in-None.ensures.reads
