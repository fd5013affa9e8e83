use Rattle.std.proofs.Common.{◌≡◌, take}
use Rattle.std.specs.Prelude.{reverse}
use Rattle.history_rules.specs.Faults.{has_just_failed, fails_now}
use Rattle.history_facts.proofs.faults.fails_now.Given as goal

abbrev pub invariant-loop-entry : goal.invariant-loop-entry
invariant-loop-entry l = (l.fails ≡ fails_now l.at (reverse (take l.entry-index l.entries))) × (l.failed ≡ has_just_failed l.at (reverse (take l.entry-index l.entries)))
