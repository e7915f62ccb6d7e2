use Rattle.std.proofs.Common.{◌≡◌, ◌++◌, rules, string_bytes, subst, sym}
use Rattle.filter.specs.Once.{ReadsOne}
use Rattle.filter.specs.declared.pointers.Member.{Member}
use Rattle.filter.proofs.Pieces.{line-more}
use Rattle.filter.proofs.line.object_of.Goals as goal
use Rattle.filter.proofs.line.object_of.Goals.{in-Source+in_ok-extend_from_slice-in-Source}
use Rattle.filter.proofs.line.object_of.Goals.{in-Text+in_ok-extend_from_slice-in-Text}

pub part_of-requires-clause-reads : goal.part_of-requires-clause-reads
part_of-requires-clause-reads c =
    subst (λ (m : Member). ReadsOne (string_bytes m.name) c.args.line.now c.source_at-source.result)
    (sym c.index-members-index.is) (c.source_at-source.ensures.reads c.index-members-index.result)

pub loop-index-preserved : goal.loop-index-preserved
loop-index-preserved c =
    let m = c.index-members-index.result in
    elim c.match-branch-4.branch [
      | in-Source+in_ok-extend_from_slice-in-Source w ↦
          let text : c.match-branch-4.text.items ≡ (c.loop-index.text.items ++ m.key.items) ++ w.in-Source.part.now =
          search rules in
          line-more c.args.members.now c.args.line.now c.loop-index.index m c.loop-index-test.true c.index-members-index.is _
          c.loop-index.invariant _ _ (rw w.in-Source.is at c.in_ok-part.ensures.any) text
      | in-Text+in_ok-extend_from_slice-in-Text w ↦
          let text : c.match-branch-4.text.items ≡ (c.loop-index.text.items ++ m.key.items) ++ w.in-Text.part.items =
          search rules in
          line-more c.args.members.now c.args.line.now c.loop-index.index m c.loop-index-test.true c.index-members-index.is _
          c.loop-index.invariant _ _ (rw w.in-Text.is at c.in_ok-part.ensures.any) text
    ]
