use Rattle.jiter_value.proofs.Words.{refl, past_blanks, owned_tree, MayGrow}
use Rattle.jiter_value.proofs.ParsedDocuments.{parses-same}
use Rattle.jiter_value.proofs.TurnOutcomes.{grows-container}
use Rattle.jiter_value.proofs.parse.parse_owned.own_text.Goals as goal

pub returns-clause-parses : goal.returns-clause-parses
returns-clause-parses c =
    let p = c.args.reading.now.settings in
    let t = c.args.bytes.now in
    parses-same owned_tree owned_tree (λ v. refl) _ (MayGrow t)
    (grows-container t (past_blanks t 0) (Unit {0}) c.requires.container) p.allow_inf_nan p.mode t
    c.read_text_as.result c.read_text_as.ensures.parses
