use Rattle.jiter_value.proofs.Words.{refl, IsCharBoundary-start}
use Rattle.jiter_value.proofs.value.quoted.push_quoted.Goals as goal

pub loop-at-init : goal.loop-at-init
loop-at-init c = record { boundary = IsCharBoundary-start c.args.key.now c.utf8.key; printed = refl }
