use Rattle.jiter.proofs.Words.{option_map, whole, owned_text, key_bytes, known, object_read}
use Rattle.jiter.proofs.Containers.{passed-on, refused-seen}
use Rattle.jiter.proofs.ReadLaws.{read-anywhere}
use Rattle.jiter.proofs.client.first_key.Goals as goal

pub returns-in_err-key-clause-reads : goal.returns-in_err-key-clause-reads
returns-in_err-key-clause-reads c =
    let h = rw c.in_err-key.was at c.known_object.follows.holds-at-none in
    let reply = known c.args.jiter.now (object_read whole c.args.jiter.now) in
    passed-on c.from_residual.result c.from_residual.ensures.1
    (refused-seen key_bytes (option_map owned_text) reply (read-anywhere _ _ _ h))
