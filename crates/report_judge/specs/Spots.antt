-- Where a line of a script is found.
use Rattle.std.specs.Prelude.{ℕ, ◌≡◌, List, true, Option, Some, None}
use Rattle.std.specs.List.{slice_get}
use Rattle.nrt_base.specs.declared.numbers.At.{At}
use Rattle.script_serving.specs.declared.script.Line.{Line}
use Rattle.script_serving.specs.declared.script.Phase.{Phase}
use Rattle.script_serving.specs.declared.script.Script.{Script}
use Rattle.script_serving.specs.Lines.{lines_of_phase, has_line}
use Rattle.report_judge.specs.declared.spots.Spot.{Spot}

-- the line at a spot
abbrev pub line_at : List Phase → Spot → Option Line
line_at phases spot = elim (slice_get phases spot.phase) [
  | None ↦ None
  | Some phase ↦ elim (slice_get phase.lanes spot.lane) [ None ↦ None | Some lane ↦ slice_get lane.1 spot.place ]
]

-- the phase of this number, counted from 0, has a line at this place
pub record IsPhaseOf (script : Script) (at : At) (k : ℕ) : Type 0 where
  pub phase : Phase
  pub there : slice_get script.phases k ≡ Some phase
  pub has : has_line (lines_of_phase phase) at ≡ true
