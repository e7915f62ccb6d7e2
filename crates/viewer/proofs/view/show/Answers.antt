use Rattle.json_screen.specs.Parts.{inside_of}
use Rattle.viewer.proofs.Following.{line-broken, line-written}
use Rattle.viewer.proofs.view.show.Goals as goal

pub returns-in-Lines-clause-whole : goal.returns-in-Lines-clause-whole
returns-in-Lines-clause-whole g c = λ options t h.
    let written = c.show_line.ensures in
    rw c.in-Lines.is (line-written c.show_line.result options t c.args.last _ _
    (written.last options (inside_of t) h.read) (written.whole options (inside_of t) h.read))

pub returns-in-Lines-clause-prefix : goal.returns-in-Lines-clause-prefix
returns-in-Lines-clause-prefix g c = λ options t h.
    rw c.in-Lines.is (line-broken c.show_line.result options t c.args.last _ _
    (c.show_line.ensures.prefix options (inside_of t) h.read))
