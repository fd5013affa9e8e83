use Rattle.std.proofs.Common.{◌∙◌, ap, map, List, ◌++◌}
use Rattle.std.specs.List.{flat_map}
use Rattle.nrt_base.specs.declared.numbers.LaneNo.{LaneNo}
use Rattle.script_serving.specs.declared.script.Line.{Line}
use Rattle.script_serving.specs.Lines.{lines_of_phase}
use Rattle.report_judge.specs.Places.{place_of}
use Rattle.report_judge.proofs.PlaceLaws.{places_step}
use Rattle.report_judge.proofs.lines.all_places.Goals as goal

pub loop-phase-preserved : goal.loop-phase-preserved
loop-phase-preserved c =
    places_step lines_of_phase c.as_slice-phase-items.result.now c.loop-phase.phase-index c.phase-item.result c.loop-phase-test.true c.phase-item.is
    c.loop-phase.places.items c.push_lanes.new.out.items (map place_of (flat_map lines_of_phase c.as_slice-phase-items.result.now))
    (c.in_ok-push_lanes.ensures ∙ ap (λ (lanes : List (LaneNo × List Line)). c.loop-phase.places.items ++ map place_of (flat_map (λ (lane : LaneNo × List Line). lane.1) lanes)) c.as_slice.ensures)
    c.loop-phase.invariant
