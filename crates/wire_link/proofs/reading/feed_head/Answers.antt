use Rattle.wire_link.proofs.ChunkLaws.{only_memory}
use Rattle.wire_link.proofs.reading.feed_head.Goals as goal

pub out_of_memory-requires : goal.out_of_memory-requires
out_of_memory-requires c = only_memory _ _ c.requires (rw c.in-Err.is at c.feed.ensures.cause)
