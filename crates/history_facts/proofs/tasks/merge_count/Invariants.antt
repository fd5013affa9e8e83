use Rattle.std.proofs.Common.{◌≡◌, ◌≤◌, take}
use Rattle.std.specs.Prelude.{reverse}
use Rattle.history_rules.specs.Tasks.{merge_count}
use Rattle.history_facts.proofs.tasks.merge_count.Given as goal

abbrev pub invariant-loop-entry : goal.invariant-loop-entry
invariant-loop-entry l = (l.count ≡ merge_count (reverse (take l.entry-index l.entries))) × (l.count ≤ l.entry-index)
