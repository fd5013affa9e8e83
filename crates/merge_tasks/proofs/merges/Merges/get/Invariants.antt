use Rattle.std.proofs.Common.{◌≡◌, drop}
use Rattle.merge_tasks.specs.Merging.{line_of}
use Rattle.merge_tasks.proofs.merges.Merges.get.Given as goal

abbrev pub invariant-loop-row : goal.invariant-loop-row
invariant-loop-row l = line_of (drop l.row-index l.row-items) l.seg.0 ≡ line_of l.initial.self.rows l.seg.0
