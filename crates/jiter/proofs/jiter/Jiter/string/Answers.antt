use Rattle.jiter.proofs.Words.{sym, subst, rules, string_at-within, text_view}
use Rattle.jiter.proofs.Refusals.{IsInside, reading-within, index-parser, index-refused}
use Rattle.jiter.proofs.jiter.Jiter.string.Goals as goal

pub returns : goal.returns
returns c =
    let p = c.self.inside.parser in
    let is = c.self.view_is in
    let inside = subst IsInside (sym is) c.requires in
    let stop = index-parser p c.string-read.new.self c.string-read.ensures.moves in
    record {
      reads = record {
        moves = search rules;
        value = search rules;
        index = rw (← is) (index-refused p.bytes.now p.index text_view c.string-read.result c.map_err.result _ _
            c.map_err.ensures.cases (λ f e h. search rules)
            (reading-within p.bytes.now p.index _ p.within (string_at-within _ p.bytes.now p.index inside)) stop
            c.string-read.ensures.value);
        memory = search rules;
      };
    }
