use Rattle.std.proofs.Common.{◌≡◌, drop}
use Rattle.merge_tasks.specs.Board.{open_merge}
use Rattle.merge_tasks.proofs.rows.merge_in.Given as goal

abbrev pub invariant-loop-row : goal.invariant-loop-row
invariant-loop-row l = open_merge l.seg.0 (drop l.row-index l.rows) ≡ open_merge l.seg.0 l.initial.rows
