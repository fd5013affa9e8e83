use Rattle.std.proofs.Common.{◌≡◌, ◌≤◌, take}
use Rattle.std.specs.Prelude.{reverse, length}
use Rattle.history_rules.specs.Points.{operations_of_generation}
use Rattle.history_facts.proofs.generation.accepted_in_generation.Given as goal

abbrev pub invariant-loop-entry : goal.invariant-loop-entry
invariant-loop-entry l =
    (l.count ≡ length (operations_of_generation (reverse (take l.entry-index l.entries)))) × (l.count ≤ l.entry-index)
