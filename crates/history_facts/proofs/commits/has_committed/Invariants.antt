use Rattle.std.proofs.Common.{◌≡◌, take}
use Rattle.std.specs.Prelude.{reverse}
use Rattle.history_rules.specs.Commits.{has_committed}
use Rattle.history_facts.proofs.commits.has_committed.Given as goal

abbrev pub invariant-loop-entry : goal.invariant-loop-entry
invariant-loop-entry l = l.committed ≡ has_committed l.n.0 (reverse (take l.entry-index l.entries))
