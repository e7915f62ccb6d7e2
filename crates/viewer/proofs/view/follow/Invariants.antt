use Rattle.std.proofs.Common.{[]}
use Rattle.viewer.proofs.Following.{Follows}
use Rattle.viewer.specs.Shown.{look}
use Rattle.json_screen.specs.Arrived.{HasArrived}
use Rattle.json_screen.specs.declared.input.Options.{Options}
use Rattle.viewer.proofs.view.follow.Given as goal

abbrev pub invariant-loop : goal.invariant-loop
invariant-loop g l = (options : Options) → HasArrived options l.fn.input [] →
    Follows l.output options (g.R.Read.remaining l.initial.reader) (g.R.Read.remaining l.reader)
    (g.O.Write.contents l.initial.out) (g.O.Write.contents l.out) l.input (look l.last)
