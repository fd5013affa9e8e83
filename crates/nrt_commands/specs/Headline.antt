-- What the program promises for what it reads.
use Rattle.std.specs.Prelude.{ℕ, ◌≡◌, List, [], ◌∷◌, take, codes, false, Option}
use Rattle.std.specs.Io.KnownBytes.{Appends}
use Rattle.history_rules.specs.declared.entry.History.{History}
use Rattle.history_rules.specs.Legal.{IsLegal}
use Rattle.report_text.specs.Texts.{text_of}
use Rattle.script_serving.specs.declared.script.Script.{Script}
use Rattle.script_serving.specs.Serves.{Serves}
use Rattle.script_text.specs.Grammar.{SpellsScript}
use Rattle.stream_commands.specs.Reads.{ReadWhole}
use Rattle.cluster_state.specs.Run.{Run}
use Rattle.cluster_run.specs.Running.{history_of, TellsInner}

-- the row of words: `run`
abbrev pub IsRun : List (List ℕ) → Type 0
IsRun words = words ≡ codes "run" ∷ []

-- the bytes are a script, and the sink gained the text of a legal history that serves it
pub record Answers (bytes : List ℕ) (before after : Option (List ℕ)) : Type 0 where
  pub script : Script
  pub grammar : SpellsScript bytes script
  pub history : History
  pub legal : IsLegal history
  pub serves : Serves script history
  pub written : Appends before after (text_of history)

-- the cluster has run the script that the bytes are: it has not ended, its history is legal and serves the script, and each printed
-- entry tells what is so of inner work, an answer `none` to a publish too, and each merge takes the first range that is due by the sizes in its entry
pub record HasRun (bytes : List ℕ) (r : Run) : Type 0 where
  pub script : Script
  pub grammar : SpellsScript bytes script
  pub running : r.ended ≡ false
  pub legal : IsLegal (history_of r)
  pub serves : Serves script (history_of r)
  pub told : TellsInner script r.log

-- the source was read to its end, and the sink gained the text of a legal history that serves what it gave
pub record Ran (left_before left_after held_before held_after : Option (List ℕ)) : Type 0 where
  pub bytes : List ℕ
  pub read : ReadWhole left_before left_after bytes
  pub answers : Answers bytes held_before held_after

-- the bytes are a script, and the sink gained the front of the text of a legal history that serves it
pub record AnswersInPart (bytes : List ℕ) (before after : Option (List ℕ)) : Type 0 where
  pub script : Script
  pub grammar : SpellsScript bytes script
  pub history : History
  pub legal : IsLegal history
  pub serves : Serves script history
  pub front : ℕ
  pub written : Appends before after (take front (text_of history))

-- the source was read to its end, and the sink gained the front of the text of a legal history that serves what it gave
pub record RanInPart (left_before left_after held_before held_after : Option (List ℕ)) : Type 0 where
  pub bytes : List ℕ
  pub read : ReadWhole left_before left_after bytes
  pub answers : AnswersInPart bytes held_before held_after

-- the source was read to its end, the cluster has run what it gave, and the sink gained the text of its history
pub record LeavesRun (left_before left_after held_before held_after : Option (List ℕ)) (r : Run) : Type 0 where
  pub bytes : List ℕ
  pub read : ReadWhole left_before left_after bytes
  pub ran : HasRun bytes r
  pub written : Appends held_before held_after (text_of (history_of r))

-- the source was read to its end, the cluster has run what it gave, and the sink gained the front of the text of its history
pub record LeavesRunInPart (left_before left_after held_before held_after : Option (List ℕ)) (r : Run) : Type 0 where
  pub bytes : List ℕ
  pub read : ReadWhole left_before left_after bytes
  pub ran : HasRun bytes r
  pub front : ℕ
  pub written : Appends held_before held_after (take front (text_of (history_of r)))
