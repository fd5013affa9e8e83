use Rattle.std.proofs.Common.{◌≡◌, take}
use Rattle.std.specs.Prelude.{reverse}
use Rattle.history_rules.specs.Nodes.{newest_version}
use Rattle.history_facts.proofs.nodes.newest_version.Given as goal

abbrev pub invariant-loop-entry : goal.invariant-loop-entry
invariant-loop-entry l = l.newest ≡ newest_version (reverse (take l.entry-index l.entries))
