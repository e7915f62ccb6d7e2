use Rattle.jiter.proofs.Words.{◌∙◌, sym}
use Rattle.jiter.specs.Errors.{type_of}
use Rattle.jiter.proofs.ReadLaws.{other-refused}
use Rattle.jiter.proofs.jiter.Jiter.cold_stop_at.Goals as goal

pub returns-in-Some : goal.returns-in-Some
returns-in-Some c = other-refused c.args.self.now (type_of c.args.wanted) _ c.args.at c.in-Some.byte c.refused_as.result c.self.view_is
    c.requires.place c.requires.within.0 c.requires.within.1 (sym c.byte_at.ensures.value ∙ c.in-Some.is) (cc) c.refused_as.ensures.refusal
