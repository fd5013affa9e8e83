use Rattle.std.proofs.Common.{◌≡◌, take}
use Rattle.std.specs.Prelude.{reverse}
use Rattle.history_rules.specs.Commits.{passes}
use Rattle.history_facts.proofs.commits.is_passed.Given as goal

abbrev pub invariant-loop-entry : goal.invariant-loop-entry
invariant-loop-entry l = l.passed ≡ passes l.n.0 l.v.0 (reverse l.entries) (reverse (take l.entry-index l.entries))
