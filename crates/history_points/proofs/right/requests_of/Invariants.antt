use Rattle.std.proofs.Common.{take}
use Rattle.std.specs.Prelude.{reverse}
use Rattle.std.specs.List.{All}
use Rattle.known_past.specs.Known.{IsKnown}
use Rattle.history_points.specs.AskedPoints.{ArePlacesOfPoints}
use Rattle.history_points.specs.RightAnswers.{IsRequest}
use Rattle.history_points.proofs.right.requests_of.Given as goal

abbrev pub invariant-loop-at : goal.invariant-loop-at
invariant-loop-at l = record {
  known : IsKnown (reverse (take l.at l.entries)) l.known;
  places : ArePlacesOfPoints (reverse (take l.at l.entries)) l.places;
  requests : All (IsRequest l.entries) l.requests.items;
}
