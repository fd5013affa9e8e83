use Rattle.std.proofs.Common.{◌≡◌, [], length}
use Rattle.history_tables.specs.NodeRows.{RowsTell}
use Rattle.history_tables.proofs.rows.first_rows.Given as goal

abbrev pub invariant-loop-next : goal.invariant-loop-next
invariant-loop-next l = record { count : length l.rows.items ≡ l.next; rows : RowsTell [] l.rows.items }
