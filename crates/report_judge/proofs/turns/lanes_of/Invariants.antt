use Rattle.report_judge.specs.Turns.{AreLanes}
use Rattle.report_judge.proofs.turns.lanes_of.Given as goal

abbrev pub invariant-loop-below : goal.invariant-loop-below
invariant-loop-below l = AreLanes l.script l.lanes
