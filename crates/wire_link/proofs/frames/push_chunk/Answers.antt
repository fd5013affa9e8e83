use Rattle.std.proofs.Common.{arith}
use Rattle.wire_link.proofs.CopyLaws.{part_is, part_fits, chunk_added}
use Rattle.wire_link.proofs.frames.push_chunk.Goals as goal

pub encode-requires : goal.encode-requires
encode-requires c = part_fits c.args.bytes.now c.args.at c.in_ok-part.part c.requires (part_is c.args.bytes.now c.args.at c.min.result c.in_ok-part.part c.requires (omega (arith, c.min.ensures, c.len.ensures.value)) c.in_ok-part.ensures.ok)

pub returns : goal.returns
returns c = chunk_added c.args.name c.args.bytes.now c.args.at c.in_ok-part.part c.args.out.now.items c.encode.new.out.items (part_is c.args.bytes.now c.args.at c.min.result c.in_ok-part.part c.requires (omega (arith, c.min.ensures, c.len.ensures.value)) c.in_ok-part.ensures.ok) c.encode.ensures.framable c.in_ok-encode.ensures.ok
