use Rattle.std.proofs.Common.{length}
use Rattle.wire_frames.specs.Streams.{BeginsWith}
use Rattle.wire_frames.proofs.decoder.whole_messages.Given as goal

abbrev pub invariant-loop-messages : goal.invariant-loop-messages
invariant-loop-messages l = BeginsWith l.bytes l.messages.items l.rest

abbrev pub decreases-loop-messages : goal.decreases-loop-messages
decreases-loop-messages l = length l.rest
