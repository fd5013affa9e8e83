use Rattle.std.proofs.Common.{◌≡◌, reverse, take}
use Rattle.history_rules.specs.Nodes.{accepted_count}
use Rattle.history_points.proofs.counting.accepted.Given as goal

abbrev pub invariant-loop-entry : goal.invariant-loop-entry
invariant-loop-entry l = l.last ≡ accepted_count (reverse (take l.entry-index l.entry-items))
