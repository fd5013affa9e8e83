use Rattle.std.proofs.Common.{◌≡◌, ◌++◌, drop}
use Rattle.std.specs.List.{flat_map}
use Rattle.wire_frames.specs.Lines.{message_line}
use Rattle.wire_frames.proofs.lines.push_lines.Given as goal

abbrev pub invariant-loop-message : goal.invariant-loop-message
invariant-loop-message l = l.out.items ++ flat_map message_line (drop l.message-index l.messages) ≡ l.fn.out.items ++ flat_map message_line l.messages
