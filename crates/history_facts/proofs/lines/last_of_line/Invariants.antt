use Rattle.std.proofs.Common.{◌≡◌, take}
use Rattle.std.specs.Prelude.{reverse}
use Rattle.history_rules.specs.Lines.{last_of_line}
use Rattle.std.specs.Option.{option_copied}
use Rattle.history_facts.proofs.lines.last_of_line.Given as goal

abbrev pub invariant-loop-entry : goal.invariant-loop-entry
invariant-loop-entry l = option_copied l.last ≡ last_of_line l.at (reverse (take l.entry-index l.entries))
