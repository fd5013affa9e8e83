use Rattle.std.proofs.Common.{take, ◌++◌}
use Rattle.merge_precopy.specs.Tables.{HasFiles}
use Rattle.merge_precopy.proofs.table.joined.Given as goal

abbrev pub invariant-loop-file : goal.invariant-loop-file
invariant-loop-file l = HasFiles (take l.file-index l.files) l.table

abbrev pub invariant-loop-added : goal.invariant-loop-added
invariant-loop-added l = HasFiles (l.files ++ take l.added-index l.more) l.table
