use Rattle.std.proofs.Common.{sym}
use Rattle.wire_frames.proofs.MessageLaws.{chunk_fits}
use Rattle.wire_frames.proofs.encoding.is_framable.Goals as goal

pub returns : goal.returns
returns c =
    chunk_fits c.args.name c.as_slice.result.now c.args.bytes.now c.args.at c.as_slice.ensures.bytes c.as_slice.ensures.kind c.is_u64.ensures c.requires.some c.requires.most (rw (sym c.string_len-short.ensures.size) c.string_len-short.ensures.most)
