use Rattle.std.proofs.Common.{arith}
use Rattle.wire_frames.specs.Reading.{message_of}
use Rattle.wire_frames.proofs.FrameLaws.{tells_seen}
use Rattle.wire_frames.proofs.parts.next_parts.Goals as goal

pub returns : goal.returns
returns c = tells_seen c.args.bytes.now (λ x. (message_of x.0, x.1.now)) c.front_parts.result (λ i. omega (arith, c.type_inv.bytes i)) c.front_parts.ensures
