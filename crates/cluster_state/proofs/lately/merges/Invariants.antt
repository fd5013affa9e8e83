use Rattle.std.proofs.Common.{◌≡◌, length, reverse}
use Rattle.history_rules.specs.Lines.{last_of_line}
use Rattle.history_rules.specs.Rules.{is_merging}
use Rattle.cluster_state.proofs.lately.merges.Given as goal

-- nothing was said since
abbrev pub invariant-loop-entry : goal.invariant-loop-entry
invariant-loop-entry l = is_merging (last_of_line l.at (reverse l.left)) ≡ is_merging (last_of_line l.at (reverse l.entries))

abbrev pub decreases-loop-entry : goal.decreases-loop-entry
decreases-loop-entry l = length l.left
