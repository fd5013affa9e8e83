-- What the private calls below the top call give: the report of a run, and what is left of it.
use Rattle.std.specs.Prelude.{ℕ, ◌≡◌, List, take, false, Option}
use Rattle.std.specs.Io.KnownBytes.{Appends}
use Rattle.history_rules.specs.Legal.{IsLegal}
use Rattle.report_text.specs.Texts.{text_of}
use Rattle.script_serving.specs.declared.script.Script.{Script}
use Rattle.script_serving.specs.Serves.{Serves}
use Rattle.cluster_state.specs.Run.{Run}
use Rattle.cluster_run.specs.Running.{history_of, TellsInner}
use Rattle.nrt_commands.specs.Headline.{HasRun}

-- the text is that of the history of a cluster that has run the script
pub record IsReport (script : Script) (r : Run) (text : List ℕ) : Type 0 where
  pub running : r.ended ≡ false
  pub legal : IsLegal (history_of r)
  pub serves : Serves script (history_of r)
  pub told : TellsInner script r.log
  pub is : text ≡ text_of (history_of r)

-- the cluster has run the script that the bytes are, and the sink gained the text of its history
pub record LeavesText (bytes : List ℕ) (before after : Option (List ℕ)) (r : Run) : Type 0 where
  pub ran : HasRun bytes r
  pub written : Appends before after (text_of (history_of r))

-- the cluster has run the script that the bytes are, and the sink gained the front of the text of its history
pub record LeavesFront (bytes : List ℕ) (before after : Option (List ℕ)) (r : Run) : Type 0 where
  pub ran : HasRun bytes r
  pub front : ℕ
  pub written : Appends before after (take front (text_of (history_of r)))
