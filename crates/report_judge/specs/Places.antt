-- The places of lines of a script, and the line of a number.
use Rattle.std.specs.Prelude.{ℕ, List, [], ◌∷◌, Bool, true, ◌&&◌, ◌==◌, if◌then◌else◌, Option, Some, None}
use Rattle.nrt_base.specs.declared.numbers.At.{At}
use Rattle.history_rules.specs.Nodes.{Past}
use Rattle.history_rules.specs.Lines.{same_at, is_answered}
use Rattle.script_serving.specs.declared.script.Line.{Line}
use Rattle.script_serving.specs.declared.script.LineCommand.{LineCommand}
use Rattle.script_serving.specs.declared.script.LineCommand.TheVariants.{Publish}
use Rattle.script_serving.specs.declared.script.Script.{Script}
use Rattle.script_serving.specs.Lines.{lines_of}

-- where a line stands
abbrev pub place_of : Line → At
place_of line = line.at

-- every line before the one at this place has its reply
abbrev pub earlier_places : List At → At → Past → Bool
earlier_places [] at past = true
earlier_places (place ∷ places) at past = if same_at place at then true else is_answered place past && earlier_places places at past

-- the first of these places whose line has no reply
abbrev pub unanswered_place : List At → Past → Option At
unanswered_place [] past = None
unanswered_place (place ∷ places) past = if is_answered place past then unanswered_place places past else Some place

-- the first of the lines that has this number
abbrev pub line_numbered : ℕ → List Line → Option Line
line_numbered n [] = None
line_numbered n (line ∷ lines) = if line.at.line.0 == n then Some line else line_numbered n lines

abbrev pub place_by : ℕ → Option Line → At
place_by n None = record { lane = record { 0 = 0 }; line = record { 0 = n } }
place_by n (Some line) = line.at

abbrev pub command_by : Option Line → LineCommand
command_by None = Publish
command_by (Some line) = line.command

-- where the script's line of this number stands; under no lane where there is none
abbrev pub place_told : Script → ℕ → At
place_told script n = place_by n (line_numbered n (lines_of script))

-- what the script's line of this number asks for; where there is none, a publish
abbrev pub command_told : Script → ℕ → LineCommand
command_told script n = command_by (line_numbered n (lines_of script))
