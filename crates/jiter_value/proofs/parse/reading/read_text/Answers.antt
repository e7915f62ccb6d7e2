use Rattle.jiter_value.proofs.Words.{past_blanks, as_it_is, tree_as, as_read, MayGrowBy, MayGrow}
use Rattle.jiter_value.proofs.MadeTexts.{tree_as-it_is}
use Rattle.jiter_value.proofs.ParsedDocuments.{parses-same}
use Rattle.jiter_value.proofs.TurnOutcomes.{grows-borrowing}
use Rattle.jiter_value.proofs.parse.reading.read_text.Goals as goal

pub returns-clause-parses : goal.returns-clause-parses
returns-clause-parses c =
    let p = c.args.reading.now.settings in
    let t = c.args.bytes.now in
    parses-same (tree_as as_it_is) as_read tree_as-it_is (MayGrowBy ⊥ t (past_blanks t 0)) (MayGrow t)
    (grows-borrowing t (past_blanks t 0)) p.allow_inf_nan p.mode t c.read_text_as.result c.read_text_as.ensures.parses
