use Rattle.std.proofs.Common.{◌≡◌, ◌++◌, map, drop}
use Rattle.std.specs.List.{flat_map}
use Rattle.report_judge.specs.Places.{place_of}
use Rattle.report_judge.proofs.lines.push_lanes.Given as goal

abbrev pub invariant-loop-lane : goal.invariant-loop-lane
invariant-loop-lane l = l.out.items ++ map place_of (flat_map (λ lane. lane.1) (drop l.lane-index l.lanes)) ≡ l.fn.out.items ++ map place_of (flat_map (λ lane. lane.1) l.lanes)
