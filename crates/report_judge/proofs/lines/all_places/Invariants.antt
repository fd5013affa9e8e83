use Rattle.std.proofs.Common.{◌≡◌, ◌++◌, map, drop}
use Rattle.std.specs.List.{flat_map}
use Rattle.script_serving.specs.Lines.{lines_of_phase}
use Rattle.report_judge.specs.Places.{place_of}
use Rattle.report_judge.proofs.lines.all_places.Given as goal

abbrev pub invariant-loop-phase : goal.invariant-loop-phase
invariant-loop-phase l = l.places.items ++ map place_of (flat_map lines_of_phase (drop l.phase-index l.phase-items)) ≡ map place_of (flat_map lines_of_phase l.phase-items)
