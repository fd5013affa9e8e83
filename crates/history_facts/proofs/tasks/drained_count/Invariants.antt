use Rattle.std.proofs.Common.{◌≡◌, ◌≤◌, ◌*◌, ◌^◌, take}
use Rattle.std.specs.Prelude.{reverse}
use Rattle.history_rules.specs.Tasks.{drained_count}
use Rattle.history_facts.proofs.tasks.drained_count.Given as goal

abbrev pub invariant-loop-entry : goal.invariant-loop-entry
invariant-loop-entry l = (l.count ≡ drained_count (reverse (take l.entry-index l.entries))) × (l.count ≤ l.entry-index * 2 ^ 32)
