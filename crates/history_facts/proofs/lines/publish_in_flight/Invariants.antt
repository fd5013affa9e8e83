use Rattle.std.proofs.Common.{◌≡◌, take}
use Rattle.std.specs.Prelude.{reverse}
use Rattle.history_rules.specs.Nodes.{primary_of}
use Rattle.history_rules.specs.Lines.{publish_in_flight}
use Rattle.history_facts.proofs.lines.publish_in_flight.Given as goal

abbrev pub invariant-loop-entry : goal.invariant-loop-entry
invariant-loop-entry l =
    (l.primary ≡ primary_of (reverse (take l.entry-index l.entries))) × (l.line ≡ publish_in_flight (reverse (take l.entry-index l.entries)))
