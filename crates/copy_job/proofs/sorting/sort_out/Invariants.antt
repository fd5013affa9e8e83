use Rattle.std.proofs.Common.{take}
use Rattle.copy_job.specs.Jobs.{AreSortedOut}
use Rattle.copy_job.proofs.sorting.sort_out.Given as goal

abbrev pub invariant-loop-file : goal.invariant-loop-file
invariant-loop-file l = AreSortedOut l.held (take l.file-index l.files) l.sorted.missing l.sorted.reused
