-- What the program promises of a load.
use Rattle.std.specs.Prelude.{ℕ, ◌≡◌, ◌⊎◌, List, take, codes, false, Option}
use Rattle.std.specs.Io.KnownBytes.{Appends}
use Rattle.history_rules.specs.Legal.{IsLegal}
use Rattle.script_serving.specs.Serves.{Serves}
use Rattle.load_script.specs.Generated.{generated_script}
use Rattle.load_script.specs.Totals.{totals_of, summary_text}
use Rattle.cluster_state.specs.Run.{Run}
use Rattle.cluster_run.specs.Running.{history_of, TellsInner}
use Rattle.stream_commands.specs.Numbered.{AreNameAndNumber, AreNameAndSome}
use Rattle.stream_commands.specs.declared.status.Status.{Status}
use Rattle.stream_commands.specs.declared.status.Status.TheVariants.{Done, WriteFault}

-- the words are `load` and this number, from 1 to 10,000
abbrev pub IsLoadOf : List (List ℕ) → ℕ → Type 0
IsLoadOf = AreNameAndNumber (codes "load") 10000

-- the row of words: `load` and such a number
abbrev pub IsLoad : List (List ℕ) → Type 0
IsLoad = AreNameAndSome (codes "load") 10000

-- the cluster has run the script of n documents: it has not ended, its history is legal and serves the script, and each printed entry
-- tells what is so of inner work, an answer `none` to a publish too, and each merge takes the first range that is due by the sizes in its entry
pub record HasLoaded (n : ℕ) (r : Run) : Type 0 where
  pub running : r.ended ≡ false
  pub legal : IsLegal (history_of r)
  pub serves : Serves (generated_script n) (history_of r)
  pub told : TellsInner (generated_script n) r.log

-- the cluster has run the script of n documents, and the text is its summary
pub record IsSummary (n : ℕ) (r : Run) (text : List ℕ) : Type 0 where
  pub ran : HasLoaded n r
  pub is : text ≡ summary_text n (totals_of n)

-- the cluster has run the script of n documents, and the sink gained the summary: the totals are those of the scan
pub record LeavesSummary (n : ℕ) (before after : Option (List ℕ)) (r : Run) : Type 0 where
  pub ran : HasLoaded n r
  pub written : Appends before after (summary_text n (totals_of n))

-- the cluster has run the script of n documents, and the sink gained the front of the summary
pub record LeavesSummaryInPart (n : ℕ) (before after : Option (List ℕ)) (r : Run) : Type 0 where
  pub ran : HasLoaded n r
  pub front : ℕ
  pub written : Appends before after (take front (summary_text n (totals_of n)))

-- the answer to a load: its script was run
abbrev pub IsLoadAnswer : Status → Type 0
IsLoadAnswer answer = (answer ≡ Done) ⊎ (answer ≡ WriteFault)
