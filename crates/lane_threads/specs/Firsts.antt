-- That each merge takes the first range of segments that is due, by its line's factor.
use Rattle.std.specs.Prelude.{ℕ, ◌≡◌, ◌++◌, [], ◌∷◌, ⊤, Option, Some, None}
use Rattle.nrt_base.specs.declared.numbers.At.{At}
use Rattle.history_rules.specs.declared.entry.Event.{Event}
use Rattle.history_rules.specs.declared.entry.Event.TheVariants.{Merging}
use Rattle.script_serving.specs.declared.script.LineCommand.{LineCommand}
use Rattle.script_serving.specs.declared.script.LineCommand.TheVariants.{Merge}
use Rattle.script_serving.specs.declared.script.Script.{Script}
use Rattle.script_serving.specs.Lines.{command_at, lines_of_lane}
use Rattle.history_book.specs.declared.inner.Mark.{Mark}
use Rattle.history_book.specs.declared.inner.Mark.TheVariants.{Shown, TaskFault, Kept}
use Rattle.history_book.specs.Log.{Log}
use Rattle.history_book.specs.Chosen.{HandsOutFirst}

-- where the line asks for a merge by a factor, and its entry starts one, the entry behind that hands out the first range that is due
abbrev pub FirstIsSo : Option LineCommand → Option Mark → At → Event → Type 0
FirstIsSo command behind at (Merging seg) = (factor : ℕ) → command ≡ Some (Merge factor) → HandsOutFirst factor at seg behind
FirstIsSo command behind at e = ⊤

-- so it is of each printed entry that a call of a line adds, the last of which has this one behind it, or none
abbrev pub FirstAdds : LineCommand → Option Mark → Log → Type 0
FirstAdds command behind [] = ⊤
FirstAdds command behind (Shown e ∷ more) = FirstIsSo (Some command) behind e.at e.event × FirstAdds command (Some (Shown e)) more
FirstAdds command behind (TaskFault e ∷ more) = FirstAdds command (Some (TaskFault e)) more
FirstAdds command behind (Kept i ∷ more) = FirstAdds command (Some (Kept i)) more

-- a call of a line went on with the entries by some of which this is so
pub record TellsFirst (command : LineCommand) (old new : Log) : Type 0 where
  pub more : Log
  pub log : new ≡ more ++ old
  pub first : FirstAdds command None more

-- each merge of the script takes the first range that is due; the last entry has this one behind it, or none
abbrev pub FirstIsTold : Script → Option Mark → Log → Type 0
FirstIsTold script behind [] = ⊤
FirstIsTold script behind (Shown e ∷ log) = FirstIsSo (command_at (lines_of_lane e.at.lane.0 script) e.at) behind e.at e.event × FirstIsTold script (Some (Shown e)) log
FirstIsTold script behind (TaskFault e ∷ log) = FirstIsTold script (Some (TaskFault e)) log
FirstIsTold script behind (Kept i ∷ log) = FirstIsTold script (Some (Kept i)) log
