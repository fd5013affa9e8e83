-- That a publish which is answered `none` has nothing to take: no operation, as its line asks for, and no merge that was cut over.
use Rattle.std.specs.Prelude.{◌≡◌, ◌++◌, [], ◌∷◌, false, ⊤, Option, Some}
use Rattle.history_rules.specs.declared.cause.Cause.TheVariants.{Nothing}
use Rattle.history_rules.specs.declared.entry.Event.{Event}
use Rattle.history_rules.specs.declared.entry.Event.TheVariants.{Refused}
use Rattle.script_serving.specs.declared.script.LineCommand.{LineCommand}
use Rattle.script_serving.specs.declared.script.LineCommand.TheVariants.{Publish}
use Rattle.script_serving.specs.declared.script.Script.{Script}
use Rattle.script_serving.specs.Lines.{command_at, lines_of_lane}
use Rattle.history_book.specs.declared.inner.Mark.TheVariants.{Shown, TaskFault, Kept}
use Rattle.history_book.specs.Log.{Log}
use Rattle.history_book.specs.Told.{cut_since}

-- where the line asks for a publish, and the entry answers `none`, no merge was cut over since the last point
abbrev pub NoneIsSo : Option LineCommand → Log → Event → Type 0
NoneIsSo command log e = command ≡ Some Publish → e ≡ Refused Nothing → cut_since log ≡ false

-- so it is of each printed entry that a call of a line adds
abbrev pub NoneAdds : LineCommand → Log → Log → Type 0
NoneAdds command [] old = ⊤
NoneAdds command (Shown e ∷ more) old = NoneIsSo (Some command) (more ++ old) e.event × NoneAdds command more old
NoneAdds command (TaskFault e ∷ more) old = NoneAdds command more old
NoneAdds command (Kept i ∷ more) old = NoneAdds command more old

-- a call of a line went on with the entries by some of which this is so
pub record TellsNone (command : LineCommand) (old new : Log) : Type 0 where
  pub more : Log
  pub log : new ≡ more ++ old
  pub none : NoneAdds command more old

-- each publish of the script that is answered `none` has no cut-over behind it since the last point
abbrev pub NoneIsTold : Script → Log → Type 0
NoneIsTold script [] = ⊤
NoneIsTold script (Shown e ∷ log) = NoneIsSo (command_at (lines_of_lane e.at.lane.0 script) e.at) log e.event × NoneIsTold script log
NoneIsTold script (m ∷ log) = NoneIsTold script log
