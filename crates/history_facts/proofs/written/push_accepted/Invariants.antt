use Rattle.std.proofs.Common.{◌≡◌, ◌++◌, length, take}
use Rattle.std.specs.Prelude.{reverse}
use Rattle.history_rules.specs.Points.{operations_of_generation}
use Rattle.history_facts.proofs.written.push_accepted.Given as goal

abbrev pub invariant-loop-entry : goal.invariant-loop-entry
invariant-loop-entry l =
    (l.ops.items ≡ l.fn.ops.items ++ operations_of_generation (reverse (take l.entry-index l.entries))) × (l.before ≡ length l.fn.ops.items)
