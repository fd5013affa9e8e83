use Rattle.std.proofs.Common.{◌*◌, map}
use Rattle.std.specs.List.{range_with_len}
use Rattle.wire_frames.specs.Wire.{longest_chunk}
use Rattle.wire_link.specs.Copies.{chunk_from, AddsFrames}
use Rattle.wire_link.proofs.frames.push_file.Given as goal

abbrev pub invariant-loop-k : goal.invariant-loop-k
invariant-loop-k l = AddsFrames (map (λ k. chunk_from l.name (k * longest_chunk) l.bytes) (range_with_len 0 l.k)) l.fn.out.items l.out.items
