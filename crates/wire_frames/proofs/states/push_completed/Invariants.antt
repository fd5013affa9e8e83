use Rattle.std.proofs.Common.{◌≡◌, ◌++◌, map, take}
use Rattle.wire_frames.specs.declared.message.Message.TheVariants.{Completed}
use Rattle.wire_frames.proofs.states.push_completed.Given as goal

abbrev pub invariant-loop-name : goal.invariant-loop-name
invariant-loop-name l = l.messages.items ≡ l.fn.messages.items ++ map Completed (take l.name-index l.names)
