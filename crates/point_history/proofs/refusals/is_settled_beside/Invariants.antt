use Rattle.std.proofs.Common.{◌≡◌, take}
use Rattle.std.specs.Prelude.{reverse}
use Rattle.history_rules.specs.Started.{is_settled_beside}
use Rattle.point_history.proofs.refusals.is_settled_beside.Given as goal

abbrev pub invariant-loop-entry : goal.invariant-loop-entry
invariant-loop-entry l = l.settled ≡ is_settled_beside (reverse l.start) l.at (reverse (take l.entry-index l.entries))
