use Rattle.std.proofs.Common.{◌≡◌, drop}
use Rattle.history_tables.specs.JobRows.{row_under}
use Rattle.history_tables.proofs.jobs.JobTable.get.Given as goal

abbrev pub invariant-loop-row : goal.invariant-loop-row
invariant-loop-row l = row_under (drop l.row-index l.row-items) l.key ≡ row_under l.initial.self.rows l.key
