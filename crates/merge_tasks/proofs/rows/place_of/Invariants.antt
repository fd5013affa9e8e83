use Rattle.std.proofs.Common.{◌≡◌, ◌+◌, ◌-◌, length, drop}
use Rattle.merge_tasks.specs.Board.{merge_at}
use Rattle.merge_tasks.proofs.rows.place_of.Given as goal

abbrev pub invariant-loop-i : goal.invariant-loop-i
invariant-loop-i l = l.i + merge_at l.seg.0 (drop l.i l.rows) ≡ merge_at l.seg.0 l.rows

abbrev pub decreases-loop-i : goal.decreases-loop-i
decreases-loop-i l = length l.rows - l.i
