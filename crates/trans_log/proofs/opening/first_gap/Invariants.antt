use Rattle.disk_model.specs.Disk.{reads_of}
use Rattle.trans_log.specs.Opening.{HasEach}
use Rattle.trans_log.proofs.opening.first_gap.Given as goal

-- the numbers so far have files
abbrev pub invariant-loop-index : goal.invariant-loop-index
invariant-loop-index g l = HasEach (reads_of (g.D.Dir.cells l.dir)) l.index
