use Rattle.std.proofs.Common.{◌≡◌, take}
use Rattle.std.specs.Prelude.{reverse}
use Rattle.history_rules.specs.Commits.{is_stuck}
use Rattle.history_facts.proofs.commits.is_stuck.Given as goal

abbrev pub invariant-loop-i : goal.invariant-loop-i
invariant-loop-i l = l.stuck ≡ is_stuck l.n.0 (reverse (take l.i l.entries))
