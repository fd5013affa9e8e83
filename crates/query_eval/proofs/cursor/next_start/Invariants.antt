use Rattle.std.proofs.Common.{◌-◌}
use Rattle.query_eval.specs.Cursor.{answers, rank_in}
use Rattle.query_eval.proofs.WindowLemmas.{IsSeeking}
use Rattle.query_eval.proofs.cursor.next_start.Given as goal

abbrev pub invariant-bounds : goal.invariant-bounds
invariant-bounds l = IsSeeking (answers l.fn.cursor) (answers l.cursor) (rank_in l.fn.cursor) (rank_in l.cursor) l.row l.least

abbrev pub decreases-bounds : goal.decreases-bounds
decreases-bounds l = l.rows - l.least
