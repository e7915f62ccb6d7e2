use Rattle.jiter.proofs.Words.{owned_tree, as_read}
use Rattle.jiter.proofs.Growth.{prefixes-grow, extends-owned}
use Rattle.jiter.proofs.client.prefixes.a_longer_prefix_extends_a_shorter.Goals as goal

pub returns-clause-borrowed : goal.returns-clause-borrowed
returns-clause-borrowed c = prefixes-grow as_read (λ v w h. h)

pub returns-clause-owned : goal.returns-clause-owned
returns-clause-owned c = prefixes-grow owned_tree extends-owned
