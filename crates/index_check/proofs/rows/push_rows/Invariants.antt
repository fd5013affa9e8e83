use Rattle.std.proofs.Common.{◌≡◌, ◌++◌, drop}
use Rattle.index_check.specs.Rows.{rows_of_segment}
use Rattle.index_check.proofs.LiveRows.{rows_from}
use Rattle.index_check.proofs.rows.push_rows.Given as goal

abbrev pub invariant-loop-row : goal.invariant-loop-row
invariant-loop-row l = l.rows.items ++ rows_from l.seg (drop l.row l.segment.docs) (drop l.row l.segment.live) ≡ l.initial.rows.items ++ rows_of_segment l.record l.segment
