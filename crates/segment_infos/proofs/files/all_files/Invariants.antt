use Rattle.std.proofs.Common.{◌≡◌, take}
use Rattle.std.specs.List.{flat_map}
use Rattle.segment_infos.specs.Files.{files_of_segment}
use Rattle.segment_infos.proofs.files.all_files.Given as goal

abbrev pub invariant-loop-segment : goal.invariant-loop-segment
invariant-loop-segment l = l.names.items ≡ flat_map files_of_segment (take l.segment-index l.segs)
