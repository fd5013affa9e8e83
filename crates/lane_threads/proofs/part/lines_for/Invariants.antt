use Rattle.std.proofs.Common.{drop}
use Rattle.script_serving.specs.Lines.{lines_under}
use Rattle.lane_threads.proofs.Parts.{Seeking}
use Rattle.lane_threads.proofs.part.lines_for.Given as goal

abbrev pub invariant-loop-number : goal.invariant-loop-number
invariant-loop-number l = Seeking l.lane.0 (lines_under l.lane.0 l.phase.lanes) (drop l.number-index l.number-items)
