-- What is kept of a log along a history.
use Rattle.std.specs.Prelude.{◌≡◌, List, drop, Bool, true}
use Rattle.documents.specs.declared.operation.Op.{Op}
use Rattle.history_rules.specs.Nodes.{Past}
use Rattle.script_serving.specs.Replays.{logged_operations, due}
use Rattle.report_judge.specs.declared.replay.Replay.{Replay}

-- the operations that are left
abbrev pub left_to_replay : Replay → List Op
left_to_replay replay = drop replay.accepted replay.lacking.items

-- it shows the log and what is due after these entries; without a log, that nothing is
pub record ShowsReplay (log : Bool) (past : Past) (replay : Replay) : Type 0 where
  pub logs : replay.log ≡ log
  pub logged : log ≡ true → replay.logged.items ≡ logged_operations past
  pub due : left_to_replay replay ≡ due log past
