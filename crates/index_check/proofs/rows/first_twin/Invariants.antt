use Rattle.index_check.proofs.Twins.{HaveSeen}
use Rattle.index_check.proofs.rows.first_twin.Given as goal

abbrev pub invariant-loop-row : goal.invariant-loop-row
invariant-loop-row l = HaveSeen l.rows l.row-index l.keys
