use Rattle.std.proofs.Common.{◌≡◌, take}
use Rattle.std.specs.Prelude.{reverse}
use Rattle.history_rules.specs.Lines.{has_just_switched}
use Rattle.history_facts.proofs.lines.has_just_switched.Given as goal

abbrev pub invariant-loop-entry : goal.invariant-loop-entry
invariant-loop-entry l = l.switched ≡ has_just_switched l.at (reverse (take l.entry-index l.entries))
