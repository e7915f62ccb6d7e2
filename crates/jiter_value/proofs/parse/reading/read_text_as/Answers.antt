use Rattle.jiter_value.proofs.Words.{◌∙◌, ap, arith, length, past_blanks, tree_as, MayGrowBy}
use Rattle.jiter_value.proofs.MadeTexts.{answer_as-is}
use Rattle.jiter_value.proofs.ParsedDocuments.{value-parses, error-parses}
use Rattle.jiter_value.proofs.parse.reading.read_text_as.Goals as goal

pub returns-in-Ok-clause-parses : goal.returns-in-Ok-clause-parses
returns-in-Ok-clause-parses g c =
    let a = c.args in
    let t = a.bytes.now in
    let is = answer_as-is g.T.StringStorage.policy c.requires.repeats a.reading.now.settings t in
    value-parses (tree_as g.T.StringStorage.policy.text) (MayGrowBy g.T.StringStorage.wants t (past_blanks t 0)) a.reading.now.settings t
    c.read_whole.new.parser.index c.in-Ok.value
    (rw is at (rw c.new-parser.ensures.same at c.in-Ok.ensures.value))

pub returns-in-Err-clause-parses : goal.returns-in-Err-clause-parses
returns-in-Err-clause-parses g c =
    let a = c.args in
    let t = a.bytes.now in
    let read = c.in-Err.ensures in
    let i = c.read_whole.new.parser.index in
    let same = ap (λ b. length b.now) (read.moves.same ∙ c.new-parser.ensures.same) in
    let is = answer_as-is g.T.StringStorage.policy c.requires.repeats a.reading.now.settings t in
    error-parses (tree_as g.T.StringStorage.policy.text) (MayGrowBy g.T.StringStorage.wants t (past_blanks t 0)) a.reading.now.settings t i
    c.in-Err.error c.error_at.result c.error_at.ensures (rw is at (rw c.new-parser.ensures.same at read.value))
    (omega (arith, c.read_whole.new.parser.within, same)) (rw c.new-parser.ensures.same at read.memory)
    (rw c.new-parser.ensures.same at read.place)
