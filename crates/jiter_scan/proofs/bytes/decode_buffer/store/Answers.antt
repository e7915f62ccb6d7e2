use Rattle.jiter_scan.proofs.Words.{arith, put_chunk_whole}
use Rattle.jiter_scan.proofs.bytes.decode_buffer.store.Goals as goal

pub returns : goal.returns
returns c = put_chunk_whole c.args.room.now c.args.v (omega arith)
