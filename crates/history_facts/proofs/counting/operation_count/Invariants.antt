use Rattle.std.proofs.Common.{◌≡◌, ◌+◌, ◌≤◌, length, reverse}
use Rattle.history_rules.specs.Points.{operations_at}
use Rattle.history_facts.specs.Walks.{operations_sought}
use Rattle.history_facts.proofs.counting.operation_count.Given as goal

-- what is sought in the entries left and what was counted are the whole
abbrev pub invariant-loop-entry : goal.invariant-loop-entry
invariant-loop-entry l = record {
  total : length (operations_sought l.sought (reverse l.left)) + l.count ≡ length (operations_at (reverse l.entries) l.fn.v.0);
  few : l.count + length l.left ≤ length l.entries;
}

abbrev pub decreases-loop-entry : goal.decreases-loop-entry
decreases-loop-entry l = length l.left
