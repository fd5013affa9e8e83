use Rattle.std.proofs.Common.{reverse}
use Rattle.history_points.specs.AskedPoints.{IsReachedBy}
use Rattle.history_points.specs.RightAnswers.{AreTold}
use Rattle.history_points.proofs.right.RightAnswers.of.Given as goal

abbrev pub invariant-loop-request : goal.invariant-loop-request
invariant-loop-request l = record {
  reached : IsReachedBy (reverse l.entries) l.reached;
  told : AreTold l.entries l.told;
}
