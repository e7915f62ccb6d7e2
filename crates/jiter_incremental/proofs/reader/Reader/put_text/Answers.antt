use Rattle.jiter_incremental.proofs.Words.{inr, sym, ◌∙◌, false≢true}
use Rattle.jiter_incremental.proofs.StringSteps.{only-text}
use Rattle.jiter_incremental.proofs.reader.Reader.put_text.Goals.{in-Key, in_default}
use Rattle.jiter_incremental.proofs.reader.Reader.put_text.Goals as goal

pub put-requires : goal.put-requires
put-requires c =
    elim c.match-matches.branch [
      | in-Key w ↦ absurd (false≢true (sym c.if-matches.false ∙ w.matches-is))
      | in_default w ↦
          (c.requires.room (inr (only-text c.args.self.now.token c.requires.token w.in_default.not-Key))).1
    ]
