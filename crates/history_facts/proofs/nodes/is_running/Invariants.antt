use Rattle.std.proofs.Common.{◌≡◌, take}
use Rattle.std.specs.Prelude.{reverse}
use Rattle.history_rules.specs.Nodes.{is_running}
use Rattle.history_facts.proofs.nodes.is_running.Given as goal

abbrev pub invariant-loop-entry : goal.invariant-loop-entry
invariant-loop-entry l = l.running ≡ is_running l.n.0 (reverse (take l.entry-index l.entries))
