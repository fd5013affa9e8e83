use Rattle.std.proofs.Common.{ℕ, ap, ◌∙◌}
use Rattle.std.specs.Int.{div_ceil}
use Rattle.wire_frames.specs.Wire.{longest_chunk}
use Rattle.wire_link.proofs.CopyLaws.{chunk_begins, chunks_more}
use Rattle.wire_link.proofs.frames.push_file.Goals as goal

pub push_chunk-requires : goal.push_chunk-requires
push_chunk-requires c =
    chunk_begins c.args.bytes.now c.loop-k.k c.div_ceil-count.result (c.div_ceil-count.ensures ∙ ap (λ (n : ℕ). div_ceil n longest_chunk) c.len.ensures.value) c.loop-k-test.true

pub loop-k-preserved : goal.loop-k-preserved
loop-k-preserved c = chunks_more c.args.name c.args.bytes.now c.loop-k.k c.args.out.now.items c.loop-k.out.items c.push_chunk.new.out.items c.loop-k.invariant c.in_ok-push_chunk.ensures
