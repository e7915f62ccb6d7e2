use Rattle.jiter_value.proofs.Words.{refl, sym, ◌∙◌}
use Rattle.jiter_value.proofs.Placed.{nothing-read}
use Rattle.jiter_value.proofs.parse.turns.scalars.other_turn.Goals as goal

pub fault_in_value-requires : goal.fault_in_value-requires
fault_in_value-requires g c κs = (
  (refl, tt),
  (
    c.requires.at_value,
    λ levels. nothing-read g.T.StringStorage.policy c.args.reading.now.settings c.args.bytes.now c.args.at c.args.at levels
        (sym c.start_of.ensures ∙ c.in-Nothing.is),
  ),
)
