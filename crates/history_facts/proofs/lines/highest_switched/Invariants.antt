use Rattle.std.proofs.Common.{◌≡◌, take}
use Rattle.std.specs.Prelude.{reverse}
use Rattle.history_rules.specs.Lines.{highest_switched}
use Rattle.history_facts.proofs.lines.highest_switched.Given as goal

abbrev pub invariant-loop-entry : goal.invariant-loop-entry
invariant-loop-entry l = l.highest ≡ highest_switched l.at (reverse (take l.entry-index l.entries))
