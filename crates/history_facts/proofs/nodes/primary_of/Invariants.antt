use Rattle.std.proofs.Common.{◌≡◌, ◌≤◌, take}
use Rattle.std.specs.Prelude.{reverse}
use Rattle.history_rules.specs.Nodes.{primary_of, primary_crashes}
use Rattle.history_facts.proofs.nodes.primary_of.Given as goal

abbrev pub invariant-loop-entry : goal.invariant-loop-entry
invariant-loop-entry l =
    (l.node ≡ primary_of (reverse (take l.entry-index l.entries))) × (l.crashes ≡ primary_crashes (reverse (take l.entry-index l.entries))) × (l.crashes ≤ l.entry-index)
