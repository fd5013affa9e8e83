use Rattle.std.proofs.Common.{◌≡◌, take}
use Rattle.std.specs.Prelude.{◌==◌, reverse}
use Rattle.history_rules.specs.Faults.{has_fault, is_of_disk}
use Rattle.serving_rules.proofs.refusals.has_disk_fault.Given as goal

abbrev pub invariant-loop-entry : goal.invariant-loop-entry
invariant-loop-entry l = l.met ≡ has_fault (λ m. m == l.n.0) is_of_disk l.at (reverse (take l.entry-index l.entries))
