use Rattle.std.proofs.Common.{◌≡◌, ◌≤◌, take}
use Rattle.std.specs.Prelude.{reverse}
use Rattle.history_rules.specs.Nodes.{accepted_count}
use Rattle.history_facts.proofs.nodes.accepted_count.Given as goal

abbrev pub invariant-loop-entry : goal.invariant-loop-entry
invariant-loop-entry l = (l.count ≡ accepted_count (reverse (take l.entry-index l.entries))) × (l.count ≤ l.entry-index)
