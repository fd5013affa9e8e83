use Rattle.std.proofs.Common.{◌≡◌, take}
use Rattle.std.specs.Prelude.{reverse}
use Rattle.history_rules.specs.Lines.{commit_in_flight}
use Rattle.history_facts.proofs.lines.commit_in_flight.Given as goal

abbrev pub invariant-loop-entry : goal.invariant-loop-entry
invariant-loop-entry l = l.line ≡ commit_in_flight l.n.0 (reverse (take l.entry-index l.entries))
