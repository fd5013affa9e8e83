use Rattle.std.proofs.Common.{◌≡◌, ◌≤◌, take}
use Rattle.std.specs.Prelude.{reverse}
use Rattle.history_rules.specs.Nodes.{crashes}
use Rattle.history_facts.proofs.nodes.crashes.Given as goal

abbrev pub invariant-loop-entry : goal.invariant-loop-entry
invariant-loop-entry l = (l.count ≡ crashes l.n.0 (reverse (take l.entry-index l.entries))) × (l.count ≤ l.entry-index)
