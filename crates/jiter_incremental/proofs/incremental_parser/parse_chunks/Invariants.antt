use Rattle.jiter_incremental.proofs.Words.{◌≡◌, ◌^◌, ◌<◌, take, flat_map, HasReceived}
use Rattle.jiter_incremental.proofs.incremental_parser.parse_chunks.Given as goal

-- the chunks before this one have been received
abbrev pub invariant-loop-chunk : goal.invariant-loop-chunk
invariant-loop-chunk l =
    record {
      received : HasReceived l.incremental_parser (flat_map (λ chunk. chunk.now) (take l.chunk-index l.chunks));
      names : l.incremental_parser.settings.allow_inf_nan ≡ l.allow_inf_nan;
      fits : l.incremental_parser.position < 2 ^ 64;
    }
