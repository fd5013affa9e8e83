use Rattle.std.proofs.Common.{◌≡◌, take}
use Rattle.std.specs.Prelude.{reverse}
use Rattle.history_rules.specs.Faults.{has_file_fault}
use Rattle.history_facts.proofs.faults.has_file_fault.Given as goal

abbrev pub invariant-loop-entry : goal.invariant-loop-entry
invariant-loop-entry l = l.met ≡ has_file_fault l.n.0 l.at (reverse (take l.entry-index l.entries))
