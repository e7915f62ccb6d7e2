use Rattle.jiter.proofs.Words.{sym, subst, rules, arith, common_steps, slice_get_within, read_at-within, view, byte_of}
use Rattle.jiter.proofs.Refusals.{IsInside, index-parser, index-refused, owned-within}
use Rattle.jiter.proofs.jiter.Jiter.known_value_owned.Goals as goal

pub returns : goal.returns
returns c =
    let s = c.args.self.now in
    let p = c.self.inside.parser in
    let inside = slice_get_within s.text s.position (byte_of c.args.peek) c.requires in
    let at = owned-within p.bytes.now p.index _ (read_at-within p.bytes.now c.self.inside.allow_inf_nan p.index
    (subst IsInside (sym c.self.view_is) inside)) in
    let stop = index-parser p c.read_owned.new.parser c.read_owned.ensures.moves in
    record {
      reads = record {
        moves = search rules;
        value = grind (arith, common_steps);
        index = rw (← c.self.view_is) (index-refused p.bytes.now p.index view c.read_owned.result c.map_err.result _ _
            c.map_err.ensures.cases (λ f e h. search rules) at stop c.read_owned.ensures.value);
        memory = search rules;
      };
    }
