use Rattle.wire_link.proofs.ChunkLaws.{is_frame, frame_begins, chunk_read}
use Rattle.wire_link.proofs.reading.brought.Goals as goal

pub messages_of-requires : goal.messages_of-requires
messages_of-requires c = is_frame c.args.name c.args.at _ _ _ c.chunk_head.ensures.framable c.in_ok-head.ensures.whole c.as_slice.ensures.value

pub only_chunk-requires : goal.only_chunk-requires
only_chunk-requires c =
    frame_begins c.args.name c.args.at _ _ _ c.chunk_head.ensures.framable c.in_ok-head.ensures.whole c.as_slice.ensures.value _ _ c.in_ok-messages.ensures c.as_slice-2.ensures.value

pub returns : goal.returns
returns c =
    chunk_read c.args.name c.args.at _ _ _ c.chunk_head.ensures.framable c.in_ok-head.ensures.whole c.as_slice.ensures.value _ _ c.in_ok-messages.ensures c.as_slice-2.ensures.value c.only_chunk.result c.only_chunk.ensures
