use Rattle.std.proofs.Common.{◌≡◌, ◌++◌, map, take}
use Rattle.wire_frames.specs.States.{file_message}
use Rattle.wire_frames.proofs.states.push_files.Given as goal

abbrev pub invariant-loop-name : goal.invariant-loop-name
invariant-loop-name l = l.messages.items ≡ l.fn.messages.items ++ map file_message (take l.name-index l.files)
