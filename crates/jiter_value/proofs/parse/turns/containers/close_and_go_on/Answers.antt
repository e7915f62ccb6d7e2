use Rattle.jiter_value.proofs.KeptKeys.{leaves-on}
use Rattle.jiter_value.proofs.parse.turns.containers.close_and_go_on.Goals as goal

pub returns-in-Ok-clause-keys : goal.returns-in-Ok-clause-keys
returns-in-Ok-clause-keys g c =
    leaves-on c.after_last.new.reading.stacks c.after_last.result.1 c.args.reading.now.stacks.members.items c.close.new.stacks.members.items _
    c.in-Ok.ensures.keys c.after_last.ensures.keys
