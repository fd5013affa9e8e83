use Rattle.std.proofs.Common.{◌∙◌, ap, List}
use Rattle.std.specs.List.{flat_map}
use Rattle.nrt_base.specs.declared.numbers.LaneNo.{LaneNo}
use Rattle.script_serving.specs.declared.script.Line.{Line}
use Rattle.script_serving.specs.declared.script.Phase.{Phase}
use Rattle.script_serving.specs.Lines.{lines_of_phase}
use Rattle.report_judge.specs.Places.{line_numbered}
use Rattle.report_judge.proofs.PlaceLaws.{numbered_here, numbered_later}
use Rattle.report_judge.proofs.lines.line_numbered.Goals as goal

pub returns-in-Some : goal.returns-in-Some
returns-in-Some c =
    numbered_here lines_of_phase c.args.number c.as_slice-phase-items.result.now c.loop-phase.phase-index c.phase-item.result c.loop-phase-test.true c.phase-item.is c.loop-phase.invariant c.in-Some.line.now
    (c.in-Some.ensures ∙ ap (λ (lanes : List (LaneNo × List Line)). line_numbered c.args.number (flat_map (λ (lane : LaneNo × List Line). lane.1) lanes)) c.as_slice.ensures)
    ∙ ap (λ (phases : List Phase). line_numbered c.args.number (flat_map lines_of_phase phases)) c.as_slice-phase-items.ensures

pub loop-phase-preserved : goal.loop-phase-preserved
loop-phase-preserved c =
    numbered_later lines_of_phase c.args.number c.as_slice-phase-items.result.now c.loop-phase.phase-index c.phase-item.result c.loop-phase-test.true c.phase-item.is c.loop-phase.invariant
    (c.in_default.ensures ∙ ap (λ (lanes : List (LaneNo × List Line)). line_numbered c.args.number (flat_map (λ (lane : LaneNo × List Line). lane.1) lanes)) c.as_slice.ensures)
