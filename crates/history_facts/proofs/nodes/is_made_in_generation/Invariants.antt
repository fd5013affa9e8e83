use Rattle.std.proofs.Common.{◌≡◌, take}
use Rattle.std.specs.Prelude.{reverse}
use Rattle.history_rules.specs.Nodes.{is_made_in_generation}
use Rattle.history_facts.proofs.nodes.is_made_in_generation.Given as goal

abbrev pub invariant-loop-entry : goal.invariant-loop-entry
invariant-loop-entry l = l.made ≡ is_made_in_generation l.version.0 (reverse (take l.entry-index l.entries))
