use Rattle.jiter_value.proofs.Views.{view_object}
use Rattle.jiter_value.proofs.parse.stacks.object_of.Goals as goal

pub returns : goal.returns
returns c = view_object c.args.members
