use Rattle.std.proofs.Common.{length}
use Rattle.std.specs.Prelude.{reverse}
use Rattle.history_points.specs.AskedPoints.{IsAskedPoint}
use Rattle.report_judge.specs.Walks.{IsShown, ServesTo}
use Rattle.report_judge.specs.Turns.{ArePhasesAnswered}
use Rattle.report_judge.proofs.judging.walk_over.Given as goal

abbrev pub invariant-loop-line : goal.invariant-loop-line
invariant-loop-line l = record {
  passed : ArePhasesAnswered l.script (reverse l.entries.items) l.passed;
  shown : IsShown l.script (reverse l.entries.items) l.shown;
  asked : IsAskedPoint (reverse l.entries.items) l.asked;
  serves : ServesTo l.script l.report (reverse l.entries.items) l.left;
}

abbrev pub decreases-loop-line : goal.decreases-loop-line
decreases-loop-line l = length l.left
