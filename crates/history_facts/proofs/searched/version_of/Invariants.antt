use Rattle.std.proofs.Common.{◌≡◌, length, reverse}
use Rattle.history_rules.specs.Nodes.{version_of}
use Rattle.history_facts.specs.Walks.{ReignsNot}
use Rattle.history_facts.proofs.searched.version_of.Given as goal

-- the version is that of the entries left
abbrev pub invariant-loop-entry : goal.invariant-loop-entry
invariant-loop-entry l = record {
  version : version_of l.n.0 (reverse l.left) ≡ version_of l.n.0 (reverse l.entries);
  apart : ReignsNot l.apart l.n.0 (reverse l.left);
}

abbrev pub decreases-loop-entry : goal.decreases-loop-entry
decreases-loop-entry l = length l.left
