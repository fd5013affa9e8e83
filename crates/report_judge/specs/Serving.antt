-- Which kind an event and a command are of.
use Rattle.std.specs.Prelude.{Bool, true, false}
use Rattle.history_rules.specs.declared.entry.Event.{Event}
use Rattle.history_rules.specs.declared.entry.Event.TheVariants.{Accepted}
use Rattle.script_serving.specs.declared.script.LineCommand.{LineCommand}
use Rattle.script_serving.specs.declared.script.LineCommand.TheVariants.{Merge}

-- the event accepts an operation
abbrev pub is_acceptance : Event → Bool
is_acceptance (Accepted seq op) = true
is_acceptance e = false

-- the line starts a merge
abbrev pub is_merge : LineCommand → Bool
is_merge (Merge factor) = true
is_merge command = false
