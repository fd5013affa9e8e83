use Rattle.std.proofs.Common.{◌∙◌, ap}
use Rattle.nrt_base.specs.declared.numbers.LaneNo.{LaneNo}
use Rattle.std.proofs.Common.{List}
use Rattle.script_serving.specs.declared.script.Line.{Line}
use Rattle.report_judge.specs.Places.{line_numbered}
use Rattle.report_judge.proofs.PlaceLaws.{numbered_here, numbered_later}
use Rattle.report_judge.proofs.lines.numbered_in_lanes.Goals as goal

abbrev lines_under : LaneNo × List Line → List Line
lines_under lane = lane.1

pub returns-in-Some : goal.returns-in-Some
returns-in-Some c =
    numbered_here lines_under c.args.number c.args.lanes.now c.loop-lane.lane-index c.lane-item.result c.loop-lane-test.true c.lane-item.is c.loop-lane.invariant c.in-Some.line.now
    (c.in-Some.ensures ∙ ap (line_numbered c.args.number) c.as_slice.ensures)

pub loop-lane-preserved : goal.loop-lane-preserved
loop-lane-preserved c =
    numbered_later lines_under c.args.number c.args.lanes.now c.loop-lane.lane-index c.lane-item.result c.loop-lane-test.true c.lane-item.is c.loop-lane.invariant
    (c.in_default.ensures ∙ ap (line_numbered c.args.number) c.as_slice.ensures)
