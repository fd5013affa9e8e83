use Rattle.std.proofs.Common.{take}
use Rattle.std.specs.List.{flat_map}
use Rattle.wire_link.specs.Copies.{chunk_messages, AddsFrames}
use Rattle.wire_link.proofs.frames.push_files.Given as goal

abbrev pub invariant-loop-file : goal.invariant-loop-file
invariant-loop-file l = AddsFrames (flat_map chunk_messages (take l.file-index l.files)) l.fn.out.items l.out.items
