use Rattle.std.proofs.Common.{◌≡◌, map, take}
use Rattle.wire_frames.specs.States.{file_message}
use Rattle.wire_frames.proofs.states.files_of.Given as goal

abbrev pub invariant-loop-message : goal.invariant-loop-message
invariant-loop-message l = map file_message l.files ≡ take l.message-index l.messages
