use Rattle.std.proofs.Common.{◌≡◌, ◌++◌, map, drop}
use Rattle.script_serving.specs.Lines.{lines_under}
use Rattle.report_judge.specs.Places.{place_of}
use Rattle.report_judge.proofs.lines.push_under.Given as goal

abbrev pub invariant-loop-lane : goal.invariant-loop-lane
invariant-loop-lane l = l.out.items ++ map place_of (lines_under l.under.0 (drop l.lane-index l.lanes)) ≡ l.fn.out.items ++ map place_of (lines_under l.under.0 l.lanes)
