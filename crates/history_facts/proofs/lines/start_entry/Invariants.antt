use Rattle.std.proofs.Common.{◌≡◌, take}
use Rattle.std.specs.Prelude.{reverse}
use Rattle.history_rules.specs.Lines.{start_entry}
use Rattle.std.specs.Option.{option_copied}
use Rattle.history_facts.proofs.lines.start_entry.Given as goal

abbrev pub invariant-loop-entry : goal.invariant-loop-entry
invariant-loop-entry l = option_copied l.start ≡ start_entry l.at (reverse (take l.entry-index l.entries))
