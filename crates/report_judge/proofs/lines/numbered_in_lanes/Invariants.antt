use Rattle.std.proofs.Common.{◌≡◌, drop}
use Rattle.std.specs.List.{flat_map}
use Rattle.report_judge.specs.Places.{line_numbered}
use Rattle.report_judge.proofs.lines.numbered_in_lanes.Given as goal

abbrev pub invariant-loop-lane : goal.invariant-loop-lane
invariant-loop-lane l = line_numbered l.number (flat_map (λ lane. lane.1) (drop l.lane-index l.lanes)) ≡ line_numbered l.number (flat_map (λ lane. lane.1) l.lanes)
