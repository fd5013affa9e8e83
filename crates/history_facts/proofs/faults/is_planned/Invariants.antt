use Rattle.std.proofs.Common.{◌≡◌, take}
use Rattle.std.specs.Prelude.{reverse}
use Rattle.history_rules.specs.Faults.{is_planned}
use Rattle.history_facts.proofs.faults.is_planned.Given as goal

abbrev pub invariant-loop-entry : goal.invariant-loop-entry
invariant-loop-entry l = l.planned ≡ is_planned l.n.0 l.kind (reverse (take l.entry-index l.entries))
