-- The history of a run, and what it tells of inner work.
use Rattle.std.specs.Prelude.{reverse, None}
use Rattle.history_rules.specs.declared.entry.History.{History}
use Rattle.history_book.specs.Log.{Log, printed}
use Rattle.history_book.specs.Told.{IsTold}
use Rattle.script_serving.specs.declared.script.Script.{Script}
use Rattle.lane_threads.specs.Idle.{NoneIsTold}
use Rattle.lane_threads.specs.Firsts.{FirstIsTold}
use Rattle.cluster_state.specs.Run.{Run}

-- the history of a run
abbrev pub history_of : Run → History
history_of r = record { nodes = r.nodes; entries = reverse (printed r.log) }

-- what the printed entries of a run of the script tell of inner work is so, the answers `none` of its publishes among it, and each of its merges
-- takes the first range that is due
pub record TellsInner (script : Script) (log : Log) : Type 0 where
  pub told : IsTold log
  pub none : NoneIsTold script log
  pub first : FirstIsTold script None log
