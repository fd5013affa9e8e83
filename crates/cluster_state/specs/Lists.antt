-- What a line tells of a node's files.
use Rattle.std.specs.Prelude.{◌∷◌}
use Rattle.nrt_base.specs.declared.numbers.At.{At}
use Rattle.nrt_base.specs.declared.numbers.NodeNo.{NodeNo}
use Rattle.history_rules.specs.declared.entry.Event.TheVariants.{Files}
use Rattle.history_book.specs.Log.{shown}
use Rattle.cluster_state.specs.Run.{Run, names_at, IsNow}

-- the names of the files in the node's directory are told, behind the log
abbrev pub TellsFiles : At → NodeNo → Run → Run → Type 0
TellsFiles at n old new = IsNow old new (shown at (Files n (names_at n.0 old)) ∷ old.log)
