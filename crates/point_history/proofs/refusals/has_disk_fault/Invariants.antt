use Rattle.std.proofs.Common.{◌≡◌, take}
use Rattle.std.specs.Prelude.{reverse}
use Rattle.history_rules.specs.Rules.{has_disk_fault}
use Rattle.point_history.proofs.refusals.has_disk_fault.Given as goal

abbrev pub invariant-loop-entry : goal.invariant-loop-entry
invariant-loop-entry l = l.met ≡ has_disk_fault l.nodes (reverse l.start) l.begun l.at (reverse (take l.entry-index l.entries))
