use Rattle.std.proofs.Common.{◌≡◌, length, reverse}
use Rattle.history_rules.specs.Nodes.{is_at, primary_of}
use Rattle.history_facts.proofs.searched.reigns.Given as goal

-- nothing was said since
abbrev pub invariant-loop-entry : goal.invariant-loop-entry
invariant-loop-entry l = is_at (primary_of (reverse l.left)) l.n.0 ≡ is_at (primary_of (reverse l.entries)) l.n.0

abbrev pub decreases-loop-entry : goal.decreases-loop-entry
decreases-loop-entry l = length l.left
