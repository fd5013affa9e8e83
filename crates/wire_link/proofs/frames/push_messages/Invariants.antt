use Rattle.std.proofs.Common.{take}
use Rattle.wire_link.specs.Copies.{AddsFrames}
use Rattle.wire_link.proofs.frames.push_messages.Given as goal

abbrev pub invariant-loop-message : goal.invariant-loop-message
invariant-loop-message l = AddsFrames (take l.message-index l.messages) l.fn.out.items l.out.items
