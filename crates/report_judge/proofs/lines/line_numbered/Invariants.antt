use Rattle.std.proofs.Common.{◌≡◌, drop}
use Rattle.std.specs.List.{flat_map}
use Rattle.script_serving.specs.Lines.{lines_of_phase}
use Rattle.report_judge.specs.Places.{line_numbered}
use Rattle.report_judge.proofs.lines.line_numbered.Given as goal

abbrev pub invariant-loop-phase : goal.invariant-loop-phase
invariant-loop-phase l = line_numbered l.number (flat_map lines_of_phase (drop l.phase-index l.phase-items)) ≡ line_numbered l.number (flat_map lines_of_phase l.phase-items)
