use Rattle.std.proofs.Common.{◌≡◌, take}
use Rattle.std.specs.Prelude.{reverse}
use Rattle.history_rules.specs.Lines.{is_answered}
use Rattle.history_facts.proofs.lines.is_answered.Given as goal

abbrev pub invariant-loop-entry : goal.invariant-loop-entry
invariant-loop-entry l = l.answered ≡ is_answered l.at (reverse (take l.entry-index l.entries))
