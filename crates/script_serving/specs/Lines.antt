-- The lines of a script, and where each stands.
use Rattle.std.specs.Prelude.{ℕ, List, [], ◌∷◌, ◌++◌, Bool, true, ◌&&◌, ◌==◌, if◌then◌else◌, Option, Some, None}
use Rattle.std.specs.List.{flat_map, list_all, list_any}
use Rattle.nrt_base.specs.declared.numbers.At.{At}
use Rattle.nrt_base.specs.declared.numbers.LaneNo.{LaneNo}
use Rattle.history_rules.specs.Nodes.{Past}
use Rattle.history_rules.specs.Lines.{same_at, is_answered}
use Rattle.script_serving.specs.declared.script.Line.{Line}
use Rattle.script_serving.specs.declared.script.LineCommand.{LineCommand}
use Rattle.script_serving.specs.declared.script.Phase.{Phase}
use Rattle.script_serving.specs.declared.script.Script.{Script}

-- the lines of a phase, lane by lane
abbrev pub lines_of_phase : Phase → List Line
lines_of_phase phase = flat_map (λ lane. lane.1) phase.lanes

-- the lines of a script, phase by phase
abbrev pub lines_of : Script → List Line
lines_of script = flat_map lines_of_phase script.phases

-- the lines that stand under a lane
abbrev pub lines_under : ℕ → List (LaneNo × List Line) → List Line
lines_under lane [] = []
lines_under lane (l ∷ lanes) = if l.0.0 == lane then l.1 ++ lines_under lane lanes else lines_under lane lanes

-- the lines of a lane, over all phases, in order
abbrev pub lines_of_lane : ℕ → Script → List Line
lines_of_lane lane script = flat_map (λ phase. lines_under lane phase.lanes) script.phases

-- what the line at this place asks for
abbrev pub command_at : List Line → At → Option LineCommand
command_at [] at = None
command_at (line ∷ lines) at = if same_at line.at at then Some line.command else command_at lines at

-- there is a line at this place
abbrev pub has_line : List Line → At → Bool
has_line lines at = list_any (λ line. same_at line.at at) lines

-- every line has its reply
abbrev pub all_answered : List Line → Past → Bool
all_answered lines past = list_all (λ line. is_answered line.at past) lines

-- every line before the one at this place has its reply
abbrev pub earlier_answered : List Line → At → Past → Bool
earlier_answered [] at past = true
earlier_answered (line ∷ lines) at past = if same_at line.at at then true else is_answered line.at past && earlier_answered lines at past

-- every line of the phases before the one that has this place has its reply
abbrev pub earlier_phases_answered : List Phase → At → Past → Bool
earlier_phases_answered [] at past = true
earlier_phases_answered (phase ∷ phases) at past =
    if has_line (lines_of_phase phase) at then true else all_answered (lines_of_phase phase) past && earlier_phases_answered phases at past
