use Rattle.jiter_value.proofs.Words.{refl, rules, [], ◌++◌, flat_map, IsCharBoundary-start, quoted_byte, quoted_from}
use Rattle.std.proofs.Output.{has_written_append}
use Rattle.jiter_value.proofs.QuotedKeys.{printed-more}
use Rattle.jiter_value.proofs.value.quoted.write_quoted.Goals as goal

pub loop-at-init : goal.loop-at-init
loop-at-init g c = (IsCharBoundary-start c.args.key.now c.utf8.key, [], refl, search rules)

pub loop-at-preserved : goal.loop-at-preserved
loop-at-preserved g c =
    let (bound, done, printed, wrote) = c.loop-at.invariant in
    let key = c.args.key.now in
    let next = c.next_piece-next in
    let piece = next.result.0.now in (
      next.ensures.boundary,
      done ++ piece,
      printed-more done piece (quoted_from key next.result.1) (quoted_from key c.loop-at.at)
          (flat_map quoted_byte key) printed next.ensures.text,
      λ plain.
          let sofar = wrote plain in
          has_written_append _ _ _ _ _ _ sofar (c.write_str-in-loop-at.ensures.writes sofar.plain (search rules)),
    )
