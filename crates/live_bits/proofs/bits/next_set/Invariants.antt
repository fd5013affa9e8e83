use Rattle.std.proofs.Common.{◌-◌}
use Rattle.live_bits.proofs.NextRow.{IsClearTo}
use Rattle.live_bits.proofs.bits.next_set.Given as goal

abbrev pub invariant-loop-row : goal.invariant-loop-row
invariant-loop-row l = IsClearTo l.bits l.least l.row

abbrev pub decreases-loop-row : goal.decreases-loop-row
decreases-loop-row l = l.rows - l.row
