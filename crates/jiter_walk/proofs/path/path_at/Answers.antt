use Rattle.std.proofs.Common.{◌∙◌, ◌++◌, ap, arith}
use Rattle.std.specs.Prelude.{string_bytes}
use Rattle.jiter_walk.proofs.Leading.{leads-begin, leads-end, leads-more, not-behind, not-past}
use Rattle.jiter_walk.proofs.path.path_at.Goals as goal
use Rattle.jiter_walk.proofs.path.path_at.Goals.{in-Some+then-part-at, in_default, then-part-at-via-then-part-at}
use Rattle.jiter_walk.proofs.path.path_at.Goals.{then-part-at-via-else-part-at+then-end-part}

pub loop-path-init : goal.loop-path-init
loop-path-init c =
    (omega arith, leads-begin c.args.bytes.now c.args.index (string_bytes c.new-path.result) c.new-path.ensures.bytes)

pub loop-path-preserved : goal.loop-path-preserved
loop-path-preserved c =
    let t = c.args.bytes.now in
    let path = string_bytes c.loop-path.path in
    let found = rw c.in-Some.is at c.in_ok-part.ensures in (
      omega (arith, c.if-end-part.false),
      leads-more t c.args.index c.loop-path.at path c.loop-path.invariant.1 c.in-Some.part found
          (string_bytes c.push_str.new.self)
          (c.in_ok-push_str.ensures.bytes ∙ ap (λ s. path ++ s) c.as_str.ensures.value),
    )

pub returns : goal.returns
returns c = λ n d.
    let t = c.args.bytes.now in
    let i = c.args.index in
    let path = string_bytes c.loop-path.path in
    let leads = c.loop-path.invariant.1 in
    elim c.match-branch-2.branch [
      | in-Some+then-part-at w ↦
          let found = rw w.in-Some.is at c.in_ok-part.ensures in
          elim w.then-part-at.branch [
            | then-part-at-via-then-part-at v ↦
                absurd (not-behind t i c.loop-path.at path leads w.in-Some.part found (omega (arith, v.if-part-at.true)) n d)
            | then-part-at-via-else-part-at+then-end-part v ↦
                absurd (not-past t i c.loop-path.at path leads w.in-Some.part found (omega (arith, v.if-end-part.true)) n d)
          ]
      | in_default w ↦ leads-end t i c.loop-path.at path leads (rw w.in_default.is at c.in_ok-part.ensures) n d
    ]
