use Rattle.std.proofs.Common.{◌≡◌, ◌++◌, drop}
use Rattle.index_check.specs.Rows.{rows_of_segments}
use Rattle.index_check.proofs.rows.live_rows.Given as goal

abbrev pub invariant-loop-at : goal.invariant-loop-at
invariant-loop-at l = l.rows.items ++ rows_of_segments (drop l.at l.records) (drop l.at l.segments) ≡ rows_of_segments l.records l.segments
