use Rattle.jiter.proofs.Copies.{copied}
use Rattle.jiter.proofs.client.build_string.Goals as goal

pub returns-in-Err-clause-memory : goal.returns-in-Err-clause-memory
returns-in-Err-clause-memory c =
    let read = c.in_ok-text.ensures.reads in
    λ m. copied c.args.jiter.now c.requires.here c.requires.whole _ read.0.position read.1.value
