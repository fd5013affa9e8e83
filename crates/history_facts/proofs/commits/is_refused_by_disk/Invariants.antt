use Rattle.std.proofs.Common.{◌≡◌, take}
use Rattle.std.specs.Prelude.{reverse}
use Rattle.history_rules.specs.Commits.{is_refused_by_disk}
use Rattle.history_facts.proofs.commits.is_refused_by_disk.Given as goal

abbrev pub invariant-loop-entry : goal.invariant-loop-entry
invariant-loop-entry l = l.refused ≡ is_refused_by_disk l.at (reverse (take l.entry-index l.entries))
