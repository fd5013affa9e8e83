use Rattle.std.proofs.Common.{◌<◌, ◌^◌, take}
use Rattle.std.specs.Prelude.{reverse}
use Rattle.history_rules.specs.Nodes.{accepted_count}
use Rattle.history_rules.specs.Legal.{IsLegalPast}
use Rattle.known_past.specs.Known.{IsKnown}
use Rattle.point_history.proofs.legality.legal.Given as goal

abbrev pub invariant-loop-at : goal.invariant-loop-at
invariant-loop-at l = record {
  legal : IsLegalPast l.h.nodes (reverse (take l.at l.entries));
  known : IsKnown (reverse (take l.at l.entries)) l.known;
  few : accepted_count (reverse (take l.at l.entries)) < 2 ^ 32;
}
