use Rattle.std.proofs.Common.{take}
use Rattle.merge_precopy.specs.Tables.{AreParted}
use Rattle.merge_precopy.proofs.table.part.Given as goal

abbrev pub invariant-loop-file : goal.invariant-loop-file
invariant-loop-file l = AreParted l.names (take l.file-index l.files) l.kept l.taken
