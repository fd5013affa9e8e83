use Rattle.std.proofs.Common.{◌≡◌, ◌++◌, take, drop, map, length}
use Rattle.std.specs.Prelude.{vec_capacity}
use Rattle.history_tables.specs.JobRows.{keyed_by}
use Rattle.history_tables.proofs.jobs.each_after.Given as goal

abbrev pub invariant-loop-i : goal.invariant-loop-i
invariant-loop-i l = record {
  count : length l.rows.items ≡ length l.fn.rows.items;
  capacity : vec_capacity l.rows ≡ vec_capacity l.fn.rows;
  rows : l.rows.items ≡ map (keyed_by l.step) (take l.i l.fn.rows.items) ++ drop l.i l.fn.rows.items;
}
