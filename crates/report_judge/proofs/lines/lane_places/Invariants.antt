use Rattle.std.proofs.Common.{◌≡◌, ◌++◌, map, drop}
use Rattle.std.specs.List.{flat_map}
use Rattle.script_serving.specs.Lines.{lines_under, lines_of_lane}
use Rattle.report_judge.specs.Places.{place_of}
use Rattle.report_judge.proofs.lines.lane_places.Given as goal

abbrev pub invariant-loop-phase : goal.invariant-loop-phase
invariant-loop-phase l = l.places.items ++ map place_of (flat_map (λ phase. lines_under l.lane.0 phase.lanes) (drop l.phase-index l.script.phases)) ≡ map place_of (lines_of_lane l.lane.0 l.script)
