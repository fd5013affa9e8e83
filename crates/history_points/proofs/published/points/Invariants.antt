use Rattle.std.proofs.Common.{reverse, take}
use Rattle.history_points.specs.Walks.{KnowsPast}
use Rattle.history_points.proofs.published.points.Given as goal

abbrev pub invariant-loop-entry : goal.invariant-loop-entry
invariant-loop-entry l = KnowsPast (reverse (take l.entry-index l.entry-items)) l.walk
