use Rattle.std.proofs.Common.{◌≡◌, map, take}
use Rattle.wire_frames.specs.declared.message.Message.TheVariants.{Completed}
use Rattle.wire_frames.proofs.states.names_of.Given as goal

abbrev pub invariant-loop-message : goal.invariant-loop-message
invariant-loop-message l = map Completed l.names ≡ take l.message-index l.messages
