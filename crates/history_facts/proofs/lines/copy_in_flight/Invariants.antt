use Rattle.std.proofs.Common.{◌≡◌, take}
use Rattle.std.specs.Prelude.{reverse}
use Rattle.history_rules.specs.Nodes.{primary_of}
use Rattle.history_rules.specs.Lines.{copy_in_flight}
use Rattle.history_facts.proofs.lines.copy_in_flight.Given as goal

abbrev pub invariant-loop-entry : goal.invariant-loop-entry
invariant-loop-entry l =
    (l.searched.primary ≡ primary_of (reverse (take l.entry-index l.entries))) × (l.line ≡ copy_in_flight l.n.0 l.version.0 (reverse (take l.entry-index l.entries)))
