use Rattle.std.proofs.Common.{arith}
use Rattle.wire_frames.proofs.MessageLaws.{chunk_put}
use Rattle.wire_frames.proofs.encoding.chunk_head.Goals as goal

pub returns-clause-whole : goal.returns-clause-whole
returns-clause-whole c =
    let text = c.string_len.ensures.size in
    let rest = c.len.ensures.value in
    chunk_put c.args.name c.as_slice-text.result.now c.args.bytes.now c.args.at _ _ _ _ _ _ c.in_ok-head.ensures.items c.as_slice-text.ensures.bytes (omega (arith, text, rest)) c.in_ok-push_u32.ensures.ok c.in_ok-push.ensures.items c.in_ok-push_string.ensures c.in_ok-push_u64.ensures.ok
